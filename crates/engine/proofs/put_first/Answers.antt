-- The node written is the record that runs, and the frame has room by document 01's figure. Assumes nothing.
use Rattle.std.proofs.Common.{ℕ, Bool, ◌∙◌, subst, ap₂, arith, rules}
use Rattle.sheet.specs.declared.Layout.{Layout}
use Rattle.remaining.specs.Rest.{leaf}
use Rattle.remaining.specs.Extended.{top}
use Rattle.words.specs.Words.{At}
use Rattle.words.proofs.Moved.{put_leaf}
use Rattle.sheet.proofs.Found.{in_sheet}
use Rattle.engine.proofs.Frames.{work_long, first_frame}
use Rattle.engine.proofs.put_first.Goals as goal

pub top_of-top-requires : goal.top_of-top-requires
top_of-top-requires c = let f = in_sheet c.found-found.ensures.of in (f.some_record, f.p)

pub put_node-requires : goal.put_node-requires
put_node-requires c =
    let long = work_long c.args.s.now c.args.work.now (c.requires) in
    search rules

pub returns : goal.returns
returns c =
    let O = c.found-found.ensures.of in
    let N = c.put_node.ensures in
    let w = c.put_node.new.work in
    let long = work_long c.args.s.now c.args.work.now (c.requires) in
    let i = c.top_of-top.ensures.0 ∙ ap₂ (λ (b : Bool) (l : Layout). top b l.p) O.interrupts_are O.layout_is in
    let a = put_leaf 64 c.top_of-top.result c.args.work.now w N (omega arith) in
    record {
      frame = first_frame O.accepted (N.len ∙ c.requires) (subst (λ (k : ℕ). At (leaf k) w 64) i a);
      places = N.len;
      accepted = O.accepted;
    }
