-- `endian::read_words` meets its contract: the places so far have the words from the start, and the others are as they were.
use Rattle.std.proofs.Common.{◌≡◌, ◌++◌, drop}
use Rattle.endian.specs.Bytes.{words}
use Rattle.endian.proofs.read_words.Given as goal

abbrev pub invariant-loop-i : goal.invariant-loop-i
invariant-loop-i l = l.out ≡ words l.s l.from 2 l.i ++ drop l.i l.fn.out
