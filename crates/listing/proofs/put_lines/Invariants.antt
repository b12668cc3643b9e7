-- `listing::put_lines`: the lines that are left, put from here, make those of all; each line so far took at most its room.
use Rattle.std.proofs.Common.{◌≡◌, ◌+◌, ◌*◌, ◌≤◌, length, drop}
use Rattle.cie.specs.Spacing.{rows_at}
use Rattle.book.specs.Book.{numbers_of, readings_of}
use Rattle.text.proofs.Puts.{Left}
use Rattle.listing.specs.Listing.{lines_of, shade_lines, line_room}
use Rattle.listing.proofs.put_lines.Given as goal

abbrev pub invariant-loop-i : goal.invariant-loop-i
invariant-loop-i l = record {
  room : l.at ≤ l.start + line_room * l.i;
  as_long : length l.out ≡ length l.fn.out;
  left : Left l.fn.out l.start (shade_lines l.spacing l.book) l.out l.at
      (lines_of l.spacing (drop l.i (numbers_of l.book)) (drop (rows_at l.spacing * l.i) (readings_of (rows_at l.spacing) l.book)));
}
