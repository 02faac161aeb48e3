-- Each table is what its function tells, and stands where it was written: those written later stand behind it. Assumes nothing.
use mathlib.Core.Path.{◌≡◌}
use lib.ListN.{length}
use Rattle.machine.proofs.Keeping.{put_only, put_told}
use borrow.Author.Rules.{rules}
use Rattle.machine.proofs.prepare.Goals as goal

pub returns : goal.returns
returns c =
    let al : length c.spans-spans.result ≡ 260 = search rules in
    let bl : length c.digits-digits.result ≡ 260 = search rules in
    let cl : length c.distances-distances.result ≡ 260 = search rules in
    let dl : length c.marks_of-marks.result ≡ 64 = search rules in
    let long = c.requires.1 in
    let A = c.put_numbers.ensures in
    let B = c.put_numbers-2.ensures in
    let C = c.put_numbers-3.ensures in
    let D = c.put_numbers-4.ensures in
    let p = c.new-p.ensures in
    record {
      told =
          put_told long A B C D al bl cl dl (rw p at c.spans-spans.ensures) (rw (c.bounds-endable.ensures, c.spans-spans.ensures, p) at c.digits-digits.ensures)
          (rw p at c.distances-distances.ensures) c.marks_of-marks.ensures;
      written = put_only long A B C D al bl cl dl;
    }
