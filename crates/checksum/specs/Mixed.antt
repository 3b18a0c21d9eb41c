-- Checksums as numbers.
use Rattle.std.specs.Prelude.{ℕ, ◌+◌, ◌*◌, ◌/◌, ◌%◌}

-- a checksum with 32 bits more
abbrev pub mixed : ℕ → ℕ → ℕ
mixed sum half = (31 * sum + half) % 4294967291

-- a checksum with a word more: first its high and then its low 32 bits
abbrev pub mixed_word : ℕ → ℕ → ℕ
mixed_word sum word = mixed (mixed sum (word / 4294967296)) (word % 4294967296)
