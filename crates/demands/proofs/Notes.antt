-- Notes are never interpreted: under any other notes planning and replay answer the same. Assumes nothing.
use mathlib.Core.Path.{◌≡◌}
use mathlib.Core.List.{List}
use Prim.Native.Nat.{ℕ}
use Rattle.runs.specs.Earliest.{first_plan}
use Rattle.runs.specs.Guide.{accepts}
use Rattle.sheet.specs.Notes.{FirstRecord, with_notes}
use Rattle.sheet.proofs.OtherNotes as notes
use Rattle.demands.specs.Decoded.{world_of, first_of}
use Rattle.demands.specs.Planning.{transitions_in, is_final_in, verdict_of, accepts_of}
use Rattle.demands.proofs.Tables as tables
use Rattle.demands.proofs.Alike.{AnsweredAlike}

-- "Bytes before that point are notes, never interpreted"
module _ (s other : List ℕ) (first : FirstRecord s) where
  -- the same world and first configuration
  world_same : world_of (with_notes s other) ≡ world_of s
  world_same = tables.all_same (notes.tables_same s other first)

  first_same : first_of (with_notes s other) ≡ first_of s
  first_same = tables.first_same (notes.tables_same s other first)

  -- so the same verdict, and the same histories accepted
  pub notes_alike : AnsweredAlike s (with_notes s other)
  unfolding verdict_of accepts_of
  notes_alike =
      let bound = notes.bound_same s other first in
      record {
        check = notes.check_same s other first;
        fluents = (notes.tables_same s other first).rest.f;
        bound = bound;
        verdict = λ i. first_plan (transitions_in (world_same i)) (is_final_in (world_same i)) (bound i) (first_same i);
        accepted = λ h i. accepts (transitions_in (world_same i)) (is_final_in (world_same i)) (bound i) (first_same i) h;
      }
