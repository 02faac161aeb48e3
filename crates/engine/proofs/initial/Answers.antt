-- The loop fills the table of initial values upwards, by the law of Fills; the places after it are 0. Assumes nothing.
use Rattle.std.proofs.Common.{◌≡◌, ℕ, ◌-◌, false, List, ◌++◌, replicate, ap, ◌∙◌, map-id, arith}
use Rattle.records.specs.Records.{fluent_at}
use Rattle.records.specs.Table.{up_to}
use Rattle.records.specs.declared.Fluent.{Fluent}
use Rattle.records.proofs.Fills.{start, more}
use Rattle.engine.proofs.initial.Goals as goal

-- the initial value of fluent x, as a table made upwards
abbrev firsts : List ℕ → ℕ → List ℕ → ℕ
firsts fluents x lower = (fluent_at fluents x).initial

pub loop-x-init : goal.loop-x-init
loop-x-init c = start _ _ _ _

pub loop-x-preserved : goal.loop-x-preserved
loop-x-preserved c =
    more 0 (firsts c.args.fluents.now) (λ (v : ℕ). v) 32 c.loop-x.invariant (omega arith) (ap (λ (r : Fluent). r.initial) c.fluent_at.ensures.record)

pub returns : goal.returns
returns c =
    let f = firsts c.args.fluents.now in
    let e : c.loop-x.x ≡ c.args.n = omega arith in
    ap (λ (l : List ℕ). record { values = l; running = false })
    (c.loop-x.invariant.same ∙ ap (λ (l : List ℕ). l ++ replicate (32 - c.loop-x.x) 0) (map-id (up_to f c.loop-x.x)) ∙ ap (λ (m : ℕ). up_to f m ++ replicate (32 - m) 0) e)
