-- To be believed: the trailer of a sheet, and what numbers 2 and 3 ask of it (document 01, "The sheet, read from its end"). Assumes nothing.
use Rattle.std.specs.Prelude.{ℕ, ◌+◌, ◌-◌, ◌*◌, ◌≤◌, List, Bool, ◌&&◌, length, leb, eqb}
use Rattle.records.specs.Bytes.{part, le16, le32}
use Rattle.sheet.specs.declared.Trailer.{Trailer}

-- the numbers of a trailer of 18 bytes: F, Q, E, A, P, D, the distance, the last two bytes
unfoldable pub trailer_in : List ℕ → Trailer
trailer_in t =
    record {
      f = le16 t 0;
      q = le16 t 2;
      e = le16 t 4;
      a = le16 t 6;
      p = le16 t 8;
      d = le16 t 10;
      distance = le32 t 12;
      magic = le16 t 16;
    }

-- the trailer of a sheet: its last 18 bytes
abbrev pub trailer_of : List ℕ → Trailer
trailer_of s = trailer_in (part s (length s - 18) (length s))

-- the counts and the bound are within their limits: F 1 to 32, Q and E up to 512, A up to 64, P 1 to 256, D up to 64
unfoldable pub limits_ok : Trailer → Bool
limits_ok t =
    leb 1 t.f
    && leb t.f 32
    && leb t.q 512
    && leb t.e 512
    && leb t.a 64
    && leb 1 t.p
    && leb t.p 256
    && leb t.d 64

-- the same as facts
pub record WithinLimits (t : Trailer) : Type 0 where
  pub some_fluent : 1 ≤ t.f
  pub f : t.f ≤ 32
  pub q : t.q ≤ 512
  pub e : t.e ≤ 512
  pub a : t.a ≤ 64
  pub some_record : 1 ≤ t.p
  pub p : t.p ≤ 256
  pub d : t.d ≤ 64

-- the bytes of the five tables
abbrev pub record_bytes : Trailer → ℕ
record_bytes t = 2 * t.f + 6 * t.q + 4 * t.e + 6 * t.a + 8 * t.p

-- the distance is their sum, and no more than the bytes before the trailer
unfoldable pub distance_ok : Trailer → (room : ℕ) → Bool
distance_ok t room = eqb t.distance (record_bytes t) && leb t.distance room
