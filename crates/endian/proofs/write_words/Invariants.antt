-- `endian::write_words` meets its contract: the bytes of the words so far are stored.
use Rattle.std.proofs.Common.{◌≡◌, take}
use Rattle.std.proofs.lemmas.List.Edits.{sets}
use Rattle.endian.specs.Bytes.{bytes_of}
use Rattle.endian.proofs.write_words.Given as goal

abbrev pub invariant-loop-i : goal.invariant-loop-i
invariant-loop-i l = l.part ≡ sets l.fn.part 0 (bytes_of (take l.i l.words))
