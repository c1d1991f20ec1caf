-- Single linkage as chains of short distances, apart from any joining.
use Rattle.std.specs.Prelude.{◌≡◌, ℕ, ◌<◌, ◌≤◌, ◌⊎◌, false, List, length}
use Rattle.cb_diverge.specs.declared.fraction.Fraction.{Fraction}
use Rattle.cb_diverge.specs.Distances.{is_less}
use Rattle.cb_cluster.specs.declared.link.Link.{Link}
use Rattle.cb_cluster.specs.Links.{IsAt}
use Rattle.cb_cluster.specs.Names.{name_of, clusters_of}

-- a link of at most a height stands between two platforms (own)
abbrev pub AreNear : List Link → Fraction → ℕ → ℕ → Type 0
AreNear links height p q =
    (at : ℕ) × (link : Link) × IsAt links at link × (is_less height link.distance ≡ false)
    × (((link.left ≡ p) × (link.right ≡ q)) ⊎ ((link.left ≡ q) × (link.right ≡ p)))

-- a chain of such links leads from one platform to another (own)
pub data Chain (links : List Link) (height : Fraction) : ℕ → ℕ → Type 0 where
  here : (p : ℕ) → Chain links height p p
  onward : (p q r : ℕ) → AreNear links height p q → Chain links height q r → Chain links height p r

-- each platform has the name of the least one that a chain leads to (own)
pub record AreClassNames (links : List Link) (count : ℕ) (height : Fraction) (names : List ℕ) : Type 0 where
  pub each : length names ≡ count
  pub within : (p : ℕ) → 0 < p → p ≤ count → 0 < name_of names p
  pub chained : (p : ℕ) → 0 < p → p ≤ count → Chain links height p (name_of names p)
  pub least : (p q : ℕ) → 0 < p → p ≤ count → 0 < q → q ≤ count → Chain links height p q → name_of names p ≤ q

-- the classes that chains make, by their least members (own)
abbrev pub AreClasses : List Link → ℕ → Fraction → List (List ℕ) → Type 0
AreClasses links count height classes = (names : List ℕ) × AreClassNames links count height names × (classes ≡ clusters_of names)
