-- Skeletons node by node.
use Rattle.std.proofs.Common.{◌≡◌, ℕ, ◌+◌, ◌<◌, List, [], ◌∷◌, length, take, add-one, refl, ap, sym, ◌∙◌, arith}
use Prim.Native.Nat.{zero, suc}
use Rattle.std.specs.Prelude.{slice_get}
use Rattle.std.specs.Option.{option_map}
use Rattle.cb_tree.specs.Nodes.{Node}
use Rattle.cb_tree.specs.Skeleton.{Bone, bone_of, skeleton}

head_is : (x y : Bone) (xs ys : List Bone) → x ∷ xs ≡ y ∷ ys → x ≡ y
head_is x y xs ys h = cc

tail_is : (x y : Bone) (xs ys : List Bone) → x ∷ xs ≡ y ∷ ys → xs ≡ ys
tail_is x y xs ys h = cc

bone_at : (nodes : List Node) (i : ℕ) → option_map bone_of (slice_get nodes i) ≡ slice_get (skeleton nodes) i
bone_at [] i = refl
bone_at (n ∷ ns) zero = refl
bone_at (n ∷ ns) (suc i) = bone_at ns i

-- equal skeletons have equal bones at each place
pub bones_at : (ms ns : List Node) (i : ℕ) → skeleton ms ≡ skeleton ns → option_map bone_of (slice_get ms i) ≡ option_map bone_of (slice_get ns i)
bones_at ms ns i same = bone_at ms i ∙ (ap (λ (bones : List Bone). slice_get bones i) same ∙ sym (bone_at ns i))

-- and skeletons that are equal up to a place, and there, are equal behind it
bones_on : (ms ns : List Node) (i : ℕ) → i < length ms → i < length ns → skeleton (take i ms) ≡ skeleton (take i ns)
    → option_map bone_of (slice_get ms i) ≡ option_map bone_of (slice_get ns i) → skeleton (take (suc i) ms) ≡ skeleton (take (suc i) ns)
bones_on [] ns i a b front here = absurd (omega arith)
bones_on (m ∷ ms) [] i a b front here = absurd (omega arith)
bones_on (m ∷ ms) (n ∷ ns) zero a b front here =
    let e : bone_of m ≡ bone_of n = cc in
    ap (λ (bone : Bone). bone ∷ []) e
bones_on (m ∷ ms) (n ∷ ns) (suc i) a b front here =
    let e : bone_of m ≡ bone_of n = head_is (bone_of m) (bone_of n) (skeleton (take i ms)) (skeleton (take i ns)) front in
    ap (λ (bone : Bone). bone ∷ skeleton (take (suc i) ms)) e
    ∙ ap (λ (bones : List Bone). bone_of n ∷ bones)
    (bones_on ms ns i (omega arith) (omega arith) (tail_is (bone_of m) (bone_of n) (skeleton (take i ms)) (skeleton (take i ns)) front) here)

pub bones_more : (ms ns : List Node) (i : ℕ) → i < length ms → i < length ns → skeleton (take i ms) ≡ skeleton (take i ns)
    → option_map bone_of (slice_get ms i) ≡ option_map bone_of (slice_get ns i) → skeleton (take (i + 1) ms) ≡ skeleton (take (i + 1) ns)
bones_more ms ns i a b front here = rw (add-one i) (bones_on ms ns i a b front here)
