-- A part of a whole, as it is drawn.
use Rattle.std.specs.Prelude.{ℕ, ◌+◌, ◌*◌, ◌/◌}

-- in thousandths, rounded half up
abbrev pub thousandths : (part whole : ℕ) → ℕ
thousandths part whole = (2000 * part + whole) / (2 * whole)
