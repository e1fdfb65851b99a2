-- A block after a mutable borrow of its statements.
use Rattle.std.specs.Prelude.{List}
use Rattle.std.specs.Borrow.{Lends, MutBor, Fml, Array}
use Rattle.std.specs.Vec.{with_items}
use Rattle.ir_blocks.specs.declared.statements.Block.{Block, out-Block}
use Rattle.ir_blocks.specs.declared.statements.Statement.{Statement}
use Rattle.ir_blocks.specs.declared.statements.Statement.TheViews.{roll-Block}
use Rattle.ir_blocks.specs.contracts.statements.Block as block
use Rattle.ir_blocks.specs.contracts.statements.Statement as statement

-- the block with its statements replaced by as many others; its spans stay
abbrev pub with_statements : Block → List Statement → Block
with_statements b statements = roll-Block (record (out-Block b) { body = with_items (out-Block b).body statements })

-- once the borrow r ends, the block has the statements last written through r
abbrev pub LendsStatements : MutBor Block → MutBor (List Statement) → Fml
LendsStatements b r = Lends block.the_row (Array statement.the_row 0) b r (with_statements b.now)
