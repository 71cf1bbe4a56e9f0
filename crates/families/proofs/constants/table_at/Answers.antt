-- The table follows its rule: `table_at-follows` asks for one test, which is computed over the whole constant.
use Rattle.families.proofs.Following.{table_at-follows}
use Rattle.families.proofs.constants.table_at.Goals as goal

pub returns : goal.returns
returns c = let h = c.requires in rw table_at-follows
