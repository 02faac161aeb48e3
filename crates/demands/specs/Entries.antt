-- To be believed: which entries of a history a sheet knows (document 01, "Steps and endings"). Assumes nothing.
use Rattle.std.specs.Prelude.{List, ◌⊎◌, ◌≡◌, ℕ, ◌<◌}
use Rattle.height.specs.Work.{Interrupted}
use Rattle.sheet.specs.Layout.{layout_of}
use Rattle.demands.specs.Decoded.{records_of}

-- "If any program record has kind 11", start and stop run and "stand in histories as 65534 and 65535. Other entries are action numbers"
abbrev pub KnownEntry : List ℕ → ℕ → Type 0
KnownEntry s e = (e < (layout_of s).a) ⊎ (((e ≡ 65534) ⊎ (e ≡ 65535)) × Interrupted (records_of s) (layout_of s).p)
