use Rattle.children.proofs.responding.install.Goals as goal

pub returns : goal.returns
returns c =
    let given = rw c.unwrap-spi.ensures at c.reserve.ensures.ok in
    record { spi = c.unwrap-spi.result; between = c.reserve.new.self; reserved = given.0; installed = c.install.ensures }
