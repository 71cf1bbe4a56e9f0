-- Cleared bytes, and what a store on lent memory makes of bytes.
use Rattle.std.proofs.Common.{◌≡◌, ℕ, ◌*◌, refl, ap}
use lib.Seq.{paste}
use Rattle.lent_store.specs.Memory.{blanks}
use Rattle.packed_store.specs.Packed.{PackedLaws, chunk_bytes, zeros}

blanks_zeros : (n : ℕ) → blanks 0 n ≡ zeros n
unfolding blanks zeros
blanks_zeros n = refl

pub packed_laws : PackedLaws
packed_laws = record {
  counts = λ mem. refl;
  beyond = λ mem. refl;
  shows = λ m mem. refl;
  cleared = λ mem c. ap (λ bytes. paste mem (c * chunk_bytes) bytes chunk_bytes) (blanks_zeros chunk_bytes);
  replaced = λ mem c r l. refl;
}
