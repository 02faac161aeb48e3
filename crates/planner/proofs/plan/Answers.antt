-- A sheet that is turned away leaves everything as it was. Assumes nothing.
use mathlib.Core.Path.{sym}
use borrow.Author.Rules.{rules}
use lib.ListN.{length}
use Rattle.planner.proofs.Demands.{sheet_refused, sheet_untouched}
use Rattle.planner.proofs.plan.Goals as goal

pub returns-in_err-sheet : goal.returns-in_err-sheet
returns-in_err-sheet c =
    let s = c.args.s.now in
    let work = c.args.work.now in
    let trace = c.args.trace.now in
    let q = c.in_err-sheet.ensures.refused in
    let u = sheet_untouched s _ q work trace c.args.index.now in
    record {
      answer = rw (sheet_refused s _ q (length work) (length trace)) (search rules);
      trace = sym u.0;
      work = sym u.1;
      index = sym u.2;
    }
