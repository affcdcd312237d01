use Rattle.aes.proofs.InverseLemmas.{encrypted_block, decrypted_block}
use Rattle.aes.proofs.laws.blocks_become_blocks.Goals as goal

pub returns-clause-encrypted : goal.returns-clause-encrypted
returns-clause-encrypted c = encrypted_block

pub returns-clause-decrypted : goal.returns-clause-decrypted
returns-clause-decrypted c = decrypted_block
