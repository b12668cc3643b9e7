-- So many calls are made, and the session stands for a ledger whose answers are those that are left.
use Rattle.std.proofs.Common.{◌≡◌, length}
use Rattle.calls.specs.Records.{slices_of}
use Rattle.calls.proofs.Turns.{Along}
use Rattle.calls.proofs.run.Given as goal

abbrev pub invariant-loop-i : goal.invariant-loop-i
invariant-loop-i l = record {
  same_length : length l.buffer ≡ length l.fn.buffer;
  along : Along l.records (slices_of l.tables l.spectra l.books) l.fn.buffer l.i l.buffer l.session;
}
