use Rattle.std.proofs.Common.{arith}
use Rattle.store_file.proofs.TreeImages.{words-step, words-end}
use Rattle.store_file.proofs.trees.push_words.Goals as goal

pub loop-i-preserved : goal.loop-i-preserved
loop-i-preserved c = words-step c.loop-i.i c.args.xs.now c.word_at-word.result c.loop-i.into.items _ _ c.word_at-word.ensures c.loop-i.invariant c.in_ok-extend_from_slice.ensures.items

pub returns : goal.returns
returns c = words-end c.loop-i.i c.args.xs.now c.loop-i.into.items _ (omega (arith, c.loop-i-test.false)) c.loop-i.invariant
