-- Verdicts joined: a flag says whether the bound ran out in some run before, and beside it only a plan matters. Assumes nothing.
use Prim.Native.Nat.{ℕ}
use mathlib.Core.Bool.{Bool, true, false}
use mathlib.Core.List.{List}
use mathlib.Core.Option.{Option}
use mathlib.Core.Path.{◌≡◌, refl, sym, ◌∙◌, ap}
use Rattle.runs.specs.Search.{Verdict, plan, nothing, more, is_plan, or_more, before}
use Rattle.runs.specs.Bounded.{join, flagged}

-- a flag and a verdict
pub flag_nothing : (cut : Bool) → join (flagged cut) nothing ≡ flagged cut
flag_nothing true = refl
flag_nothing false = refl

-- a flag neither makes a plan nor hides one
pub flag_plan : (cut : Bool) (v : Verdict) → is_plan (join (flagged cut) v) ≡ is_plan v
flag_plan true (plan h t) = refl
flag_plan true nothing = refl
flag_plan true more = refl
flag_plan false v = refl

pub flag_plan_is : (cut : Bool) (v : Verdict) (h : List ℕ) (t : ℕ) → join (flagged cut) v ≡ plan h t → v ≡ plan h t
flag_plan_is true (plan g u) h t e = e
flag_plan_is true nothing h t e = cc
flag_plan_is true more h t e = e
flag_plan_is false v h t e = e

more_twice : (r : Verdict) → or_more (or_more r) ≡ or_more r
more_twice (plan h t) = refl
more_twice nothing = refl
more_twice more = refl

pub join_assoc : (u v w : Verdict) → join (join u v) w ≡ join u (join v w)
join_assoc (plan h t) v w = refl
join_assoc nothing v w = refl
join_assoc more (plan h t) w = refl
join_assoc more nothing w = refl
join_assoc more more w = sym (more_twice w)

pub before_flag : (m : Option ℕ) (cut : Bool) (v : Verdict) → before m (join (flagged cut) v) nothing ≡ join (flagged cut) (before m v nothing)
before_flag m false v = refl
before_flag m true (plan h t) = refl
before_flag m true nothing = refl
before_flag m true more = refl

-- beside a run in which the bound ran out, what has no plan comes to more
pub no_plan : (cut : Bool) (v : Verdict) → cut ≡ true → is_plan v ≡ false → join (flagged cut) v ≡ more
no_plan cut v e h = ap (λ (b : Bool). join (flagged b) v) e ∙ go v h
  where
    go : (v : Verdict) → is_plan v ≡ false → or_more v ≡ more
    go (plan h t) e = cc
    go nothing e = refl
    go more e = refl
