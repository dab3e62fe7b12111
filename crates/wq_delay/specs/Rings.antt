-- Rings of places, as functions: the next place, the previous one, the head of a place's ring, and its number in it.
use Rattle.std.specs.Prelude.{◌≡◌, ◌≢◌, ℕ, ◌<◌, ◌≤◌}

-- From its head on a ring rises by the numbers of its places: the next of a place is the nearest above it, or the head.
pub record AreRings (next previous head number : ℕ → ℕ) (m : ℕ) : Type 0 where
  pub next_low : (x : ℕ) → x < m → next x < m
  pub previous_low : (x : ℕ) → x < m → previous x < m
  pub back : (x : ℕ) → x < m → previous (next x) ≡ x
  pub forth : (x : ℕ) → x < m → next (previous x) ≡ x
  pub head_low : (x : ℕ) → x < m → head x < m
  pub one_head : (x : ℕ) → x < m → head (head x) ≡ head x
  pub stays : (x : ℕ) → x < m → head (next x) ≡ head x
  pub least : (x : ℕ) → x < m → head x ≢ x → number (head x) < number x
  pub rises : (x : ℕ) → x < m → next x ≢ head x → number x < number (next x)
  pub nearest : (x y : ℕ) → x < m → y < m → head x ≡ head y → number x < number y → (next x ≢ head x) × (number (next x) ≤ number y)
  pub apart : (x y : ℕ) → x < m → y < m → head x ≡ head y → number x ≡ number y → x ≡ y
