-- A sheet that is turned away leaves everything as it was. Assumes nothing.
use mathlib.Core.Path.{sym}
use borrow.Author.Rules.{rules}
use lib.ListN.{length}
use Rattle.planner.proofs.Demands.{sheet_refused_reply, sheet_untouched}
use Rattle.planner.proofs.replay.Goals as goal

pub returns-in_err-sheet : goal.returns-in_err-sheet
returns-in_err-sheet c =
    let s = c.args.s.now in
    let work = c.args.work.now in
    let q = c.in_err-sheet.ensures.refused in
    record {
      answer = rw (sheet_refused_reply s _ q c.args.history.now (length work)) (search rules);
      work = sym (sheet_untouched s _ q work work work).3;
    }
