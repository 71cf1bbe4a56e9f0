-- The packed form of a line: eight words of 64 bits, low byte first.
use Rattle.std.specs.Prelude.{ℕ, ◌+◌, ◌-◌, ◌*◌, ◌/◌, ◌%◌, ◌^◌, List, map, slice_index}
use Rattle.std.specs.List.{range_with_len}
use Rattle.lines.specs.declared.rows.Line.{Line}
use Rattle.lines.specs.Entries.{word_of}
use Rattle.lines.specs.Lines.{entry_at}

-- how many bits of the cluster each word holds: the one place that says so
abbrev pub cluster_bits : ℕ
cluster_bits = 5

-- how many bits of a word lie below them
abbrev pub content_bits : ℕ
content_bits = 64 - cluster_bits

-- part k of a number cut into parts of some bits, the lowest first
abbrev pub part_of : ℕ → ℕ → ℕ → ℕ
part_of bits n k = n / 2 ^ (bits * k) % 2 ^ bits

-- the bits of a cluster that word k holds
abbrev pub cluster_part : ℕ → ℕ → ℕ
cluster_part c k = part_of cluster_bits c k

-- word k: the entry's word below, its part of the cluster at the top, zeros between
abbrev pub packed_word : Line → ℕ → ℕ
packed_word l k = cluster_part l.cluster k * 2 ^ content_bits + word_of (entry_at l k)

-- byte j of a number, the lowest first
abbrev pub byte_of : ℕ → ℕ → ℕ
byte_of w j = w / 256 ^ j % 256

-- byte b of a packed line
abbrev pub packed_byte : Line → ℕ → ℕ
packed_byte l b = byte_of (packed_word l (b / 8)) (b % 8)

-- the 64 bytes of a packed line
unfoldable pub packed : Line → List ℕ
packed l = map (packed_byte l) (range_with_len 0 64)

-- the word that bytes 8k to 8k+7 write, low byte first
abbrev pub word_at : List ℕ → ℕ → ℕ
word_at bs k =
    slice_index bs (8 * k) + slice_index bs (8 * k + 1) * 256 + slice_index bs (8 * k + 2) * 65536 + slice_index bs (8 * k + 3) * 16777216
    + slice_index bs (8 * k + 4) * 4294967296 + slice_index bs (8 * k + 5) * 1099511627776 + slice_index bs (8 * k + 6) * 281474976710656
    + slice_index bs (8 * k + 7) * 72057594037927936
