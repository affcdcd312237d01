-- For what memory was wanted as an answer was concluded on.
use Rattle.std.proofs.Common.{Err, IfErr, IsErrAnd, Ok, Result}
use Rattle.exchange.specs.declared.sealed.Plain.{Plain}
use Rattle.children.specs.Faults.{IsWantOfPair}
use Rattle.children.specs.declared.asking.Asked.{Asked}
use Rattle.children.specs.declared.fault.MemoryFault.{MemoryFault}
use Rattle.children.specs.declared.fault.MemoryFault.TheVariants.{Message, Window, Narrowing, Table}
use Rattle.create_child.specs.Concluding.{CanMakeFurther, CanWantForAnswer}

pub wants_pair : (asked : Asked) (plain : Plain) (f : MemoryFault) → CanMakeFurther asked plain → IsWantOfPair f → CanWantForAnswer asked plain f
wants_pair asked plain Message can wants = absurd wants
wants_pair asked plain Window can wants = can
wants_pair asked plain Narrowing can wants = can
wants_pair asked plain Table can wants = absurd wants

-- what an error is, and what follows of it
pub err_and : {T E : Type 0} (r : Result T E) (P Q : E → Type 0) → IsErrAnd r P → ((e : E) → P e → Q e) → IfErr r Q
err_and {T} {E} (Ok x) P Q is more = tt
err_and {T} {E} (Err e) P Q is more = more e is
