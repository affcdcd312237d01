use Rattle.aes.proofs.InverseLemmas.{decrypted-encrypted, encrypted-decrypted}
use Rattle.aes.proofs.laws.encryption_is_undone.Goals as goal

pub returns-clause-decrypts : goal.returns-clause-decrypts
returns-clause-decrypts c = decrypted-encrypted

pub returns-clause-encrypts : goal.returns-clause-encrypts
returns-clause-encrypts c = encrypted-decrypted
