-- Own vocabulary: what the sets of environments of a state, and the distances of records, say of a remaining program whose records are read
-- in environments: tables as crate `ends` has them, with a place for each reading. That they are right is in proofs/Ending.antt. Assumes
-- nothing.
use Rattle.std.specs.Prelude.{Bool, cond, List, ℕ, ◌+◌, ◌*◌, ◌≤◌, ◌<◌, length, get_or}
use Rattle.records.specs.Table.{up_to}
use Rattle.records.specs.Placeholders.{environments, reading, read_in, environment_of}
use Rattle.sets.specs.Sets.{member, set_at}
use Rattle.golog.specs.Prog.{program_of}
use Rattle.golog.specs.Distance.{distance}
use Rattle.golog.specs.Written.{written_records}
use Rattle.remaining.specs.Rest.{Rest, largest}
use Rattle.remaining.specs.Extended.{most_records}
use Rattle.words.specs.Words.{At}
use Rattle.positions.specs.Found.{Tables}

-- a table with a place for each record, read in each environment
unfoldable pub readings : {A : Type 0} → (ℕ → ℕ → A) → List A
readings {A} F = up_to (λ (n : ℕ) (lower : List A). F (read_in n) (environment_of n)) (environments * most_records)

-- whether it is final (the sets from 512 on); 1 where it has a transition (from 772 on), else 0; how far it is from its end at least, which is
-- told of a record for every environment
abbrev pub finals_in : (sets : List ℕ) → List Bool
finals_in sets = readings (λ (i e : ℕ). member (set_at sets (512 + i)) e)

abbrev pub counts_in : (sets : List ℕ) → List ℕ
counts_in sets = readings (λ (i e : ℕ). cond (member (set_at sets (772 + i)) e) 1 0)

abbrev pub distances_in : (distances : List ℕ) → List ℕ
distances_in distances = readings (λ (i e : ℕ). get_or distances i 0)

-- no record of the table is nearer to its end than said, in any environment
abbrev pub DistancesOf : Tables → (distances : List ℕ) → Type 0
DistancesOf t distances = (i e : ℕ) → i < t.many → e < environments → get_or distances i 0 ≤ distance (program_of (written_records t.records) (reading i e))

-- a remaining program stands there whose records there can be, and there are sets for them
pub record CanEnd (sets w : List ℕ) (place : ℕ) : Type 0 where
  pub rest : Rest
  pub at : At rest w place
  pub number : largest (λ (n : ℕ). n) rest < environments * most_records
  pub long : 8256 ≤ length sets
