-- What the lemmas quantify over. A case is one record of all that a lemma speaks of: what the provider
-- means, the configuration, the state before and after, the message and its effect. `EachMessage P` says P
-- of every case, possible or not: that the message is taken is an assumption of its own, `IsTaken it`. The
-- record's fields are quantified one by one, so a proof applies a lemma to them one by one. The same holds
-- of IKE SAs that begin (`IsBegun`), of those that are admitted (`IsAdmission`), of requests that are sent
-- (`IsSent`) and of commands (`IsOrdered`). The words of each lemma stand above the function of its name in
-- src/laws/.
use Rattle.std.specs.Prelude.{ℕ, Option}
use Rattle.base.specs.Octets.{Octets}
use Rattle.wire.specs.declared.message.Message.{Message}
use Rattle.suite.specs.declared.fresh.Fresh.{Fresh}
use Rattle.suite.specs.declared.keys.Keys.{Keys}
use Rattle.suite.specs.declared.sealer.Cipher.{Cipher}
use Rattle.sadb.specs.Database.{Database}
use Rattle.sa_init.specs.Judging.{OfferView}
use Rattle.association.specs.AskedChildren.{AskedChildView}
use Rattle.association.specs.declared.phase.Association.{Association}
use Rattle.association.specs.Admitting.{Admits}
use Rattle.initial.specs.Beginning.{begun, Begins}
use Rattle.setup.specs.Configs.{Setup}
use Rattle.association.specs.declared.admitting.Admitted.{Admitted}
use Rattle.initial.specs.declared.beginning.Beginning.{Beginning}
use Rattle.informational.specs.Asking.{Asks}
use Rattle.informational.specs.declared.ordering.Order.{Order}
use Rattle.effects.specs.Sending.{SendsRequest}
use Rattle.effects.specs.Taking.{Meaning, TakesMessage}
use Rattle.effects.specs.declared.taking.Effect.{Effect}

-- ---- a message that an IKE SA takes
pub record MessageCase : Type 0 where
  pub meaning : Meaning
  pub setup : Setup
  pub old : Association
  pub table : Database
  pub octets : Octets
  pub message : Message
  pub effect : Effect
  pub new : Association
  pub new_table : Database

abbrev pub IsTaken : MessageCase → Type 0
IsTaken it =
    TakesMessage it.meaning it.setup it.old it.table it.octets it.message it.effect it.new it.new_table

abbrev pub EachMessage : (MessageCase → Type 0) → Type 0
EachMessage P =
    (meaning : Meaning) (setup : Setup) (old : Association) (table : Database) (octets : Octets)
    (message : Message) (effect : Effect) (new : Association) (new_table : Database)
    → P (record {
      meaning = meaning;
      setup = setup;
      old = old;
      table = table;
      octets = octets;
      message = message;
      effect = effect;
      new = new;
      new_table = new_table;
    })

-- each case whose effect is `form said`; `P` is given `said`, what the effect carries, and the case
abbrev pub EachMessageWith : {A : Type 0} → (A → Effect) → (A → MessageCase → Type 0) → Type 0
EachMessageWith {A} form P =
    (meaning : Meaning) (setup : Setup) (old : Association) (table : Database) (octets : Octets)
    (message : Message) (said : A) (new : Association) (new_table : Database)
    → P said (record {
      meaning = meaning;
      setup = setup;
      old = old;
      table = table;
      octets = octets;
      message = message;
      effect = form said;
      new = new;
      new_table = new_table;
    })

-- ---- an IKE SA that this end begins
pub record BeginningCase : Type 0 where
  pub cipher : Cipher
  pub group : ℕ
  pub public_value : Octets → Octets
  pub fresh : Fresh
  pub moment : ℕ
  pub serial : ℕ
  pub beginning : Beginning
  pub child : AskedChildView

abbrev pub IsBegun : BeginningCase → Type 0
IsBegun it = Begins it.cipher it.group it.public_value it.fresh it.moment it.beginning

abbrev pub begun_by : BeginningCase → Association
begun_by it = begun it.serial it.beginning it.child

abbrev pub EachBeginning : (BeginningCase → Type 0) → Type 0
EachBeginning P =
    (cipher : Cipher) (group : ℕ) (public_value : Octets → Octets) (fresh : Fresh) (moment serial : ℕ)
    (beginning : Beginning) (child : AskedChildView)
    → P (record {
      cipher = cipher;
      group = group;
      public_value = public_value;
      fresh = fresh;
      moment = moment;
      serial = serial;
      beginning = beginning;
      child = child;
    })

-- ---- an IKE SA that this end admits
pub record AdmissionCase : Type 0 where
  pub cipher : Cipher
  pub group : ℕ
  pub public_value : Octets → Octets
  pub shared_secret : Octets → Octets → Option Octets
  pub fresh : Fresh
  pub moment : ℕ
  pub serial : ℕ
  pub offer : OfferView
  pub spi_i : ℕ
  pub request : Octets
  pub admitted : Admitted

abbrev pub IsAdmission : AdmissionCase → Type 0
IsAdmission it =
    Admits it.cipher it.group it.public_value it.shared_secret it.fresh it.moment it.serial it.offer it.spi_i
    it.request it.admitted

abbrev pub EachAdmission : (AdmissionCase → Type 0) → Type 0
EachAdmission P =
    (cipher : Cipher) (group : ℕ) (public_value : Octets → Octets)
    (shared_secret : Octets → Octets → Option Octets) (fresh : Fresh) (moment serial : ℕ) (offer : OfferView)
    (spi_i : ℕ) (request : Octets) (admitted : Admitted)
    → P (record {
      cipher = cipher;
      group = group;
      public_value = public_value;
      shared_secret = shared_secret;
      fresh = fresh;
      moment = moment;
      serial = serial;
      offer = offer;
      spi_i = spi_i;
      request = request;
      admitted = admitted;
    })

-- ---- a request that this end sends at an established IKE SA
pub record RequestCase : Type 0 where
  pub body_of : Keys → Octets → Octets → Octets → Octets
  pub setup : Setup
  pub old : Association
  pub octets : Octets
  pub new : Association

abbrev pub IsSent : RequestCase → Type 0
IsSent it = SendsRequest it.body_of it.setup it.old it.octets it.new

abbrev pub EachRequest : (RequestCase → Type 0) → Type 0
EachRequest P =
    (body_of : Keys → Octets → Octets → Octets → Octets) (setup : Setup) (old : Association) (octets : Octets)
    (new : Association)
    → P (record { body_of = body_of; setup = setup; old = old; octets = octets; new = new })

-- ---- a command to this end: a liveness check, or a deletion
pub record OrderCase : Type 0 where
  pub body_of : Keys → Octets → Octets → Octets → Octets
  pub setup : Setup
  pub order : Order
  pub old : Association
  pub octets : Octets
  pub new : Association

abbrev pub IsOrdered : OrderCase → Type 0
IsOrdered it = Asks it.body_of it.setup it.order it.old it.octets it.new

abbrev pub EachOrder : (OrderCase → Type 0) → Type 0
EachOrder P =
    (body_of : Keys → Octets → Octets → Octets → Octets) (setup : Setup) (order : Order) (old : Association)
    (octets : Octets) (new : Association)
    → P (record { body_of = body_of; setup = setup; order = order; old = old; octets = octets; new = new })
