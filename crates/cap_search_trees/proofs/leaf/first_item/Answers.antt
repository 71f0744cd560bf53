use Rattle.std.proofs.Common.{sym, arith, ◌∙◌}
use Rattle.cap_search_trees.proofs.Blocks.{item-found, item-passed}
use Rattle.cap_search_trees.proofs.leaf.first_item.Goals as goal

pub returns-in-len1-up : goal.returns-in-len1-up
returns-in-len1-up c =
    sym (c.loop-left.invariant.head
    ∙ item-found c.args.lists.now c.loop-left.left c.index-lists-left.result c.item-item.result (omega arith) (omega arith) c.index-lists-left.is (omega arith) c.item-item.is)

pub loop-left-preserved : goal.loop-left-preserved
loop-left-preserved c = record {
  within = omega arith;
  head = c.loop-left.invariant.head
      ∙ item-passed c.args.lists.now c.loop-left.left c.index-lists-left.result (omega arith) (omega arith) c.index-lists-left.is (omega arith);
}
