-- Nodes whose tokens lie one behind another.
use Rattle.std.proofs.Common.{◌≡◌, ℕ, true, false, ◌+◌, ◌-◌, ◌<◌, ◌≤◌, List, [], ◌∷◌, ◌++◌, length, get_or, take, drop, Option, Some, refl, ap, sym, ◌∙◌, arith, length-append, length-drop}
use Prim.Native.Nat.{zero, suc}
use Rattle.std.specs.Prelude.{slice_get}
use Rattle.std.proofs.lemmas.List.{take_all, drop_all, take-append-le, drop-append-le}
use Rattle.cb_tokens.specs.declared.token.Token.{Token}
use Rattle.cb_tree.specs.declared.nodes.Head.{Head}
use Rattle.cb_tree.specs.declared.node.NodeKind.{NodeKind}
use Rattle.cb_tree.specs.declared.hash.Hash.{Hash}
use Rattle.cb_tree.specs.declared.hash.Hash.TheVariants.{Sign, Digraph}
use Rattle.cb_tree.specs.Kinds.{rest_of, rest_behind_hash}
use Rattle.cb_tree.specs.Nodes.{Node}
use Rattle.cb_tree.specs.Skeleton.{Bone}
use Rattle.cb_tree.specs.inner.Heads.{hash_token, tokens_with, node_with, node_of, bone_with, node_in, nodes_in, AreWithin, kept_up_to, Adds}
use Rattle.cb_tree.specs.Roles.{is_line}

-- more tokens behind them change no node
pub nodes_kept : (heads : List Head) (from : ℕ) (tokens own : List Token) → AreWithin (length tokens) from heads → nodes_in (tokens ++ own) from heads ≡ nodes_in tokens from heads
nodes_kept [] from tokens own w = refl
nodes_kept (h ∷ hs) from tokens own w =
    let e : take (h.to - from) (drop from (tokens ++ own)) ≡ take (h.to - from) (drop from tokens) =
    ap (take (h.to - from)) (drop-append-le from tokens own (omega (arith, w.0)))
    ∙ take-append-le (h.to - from) (drop from tokens) own (omega (arith, w.0, length-drop from tokens)) in
    ap (λ ts. node_of ts h ∷ nodes_in (tokens ++ own) h.to hs) e
    ∙ ap (λ ns. node_in tokens from h ∷ ns) (nodes_kept hs h.to tokens own w.1)

-- what stands behind the first tokens
behind_first : (all before own : List Token) → all ≡ before ++ own → drop (length before) all ≡ own
behind_first all before own e =
    ap (drop (length before)) e
    ∙ (drop-append-le (length before) before own (omega arith) ∙ ap (λ (ts : List Token). ts ++ own) (drop_all (length before) before (omega arith)))

-- they are no more than all
pub no_fewer : (all before own : List Token) → all ≡ before ++ own → length before ≤ length all
no_fewer all before own e = omega (arith, ap length e, length-append before own)

-- as many of it as there are
pub own_part : (all before own : List Token) (to from : ℕ) → all ≡ before ++ own → from ≡ length before → to ≡ length all → take (to - from) (drop from all) ≡ own
own_part all before own to from e f t =
    let len : length all ≡ length before + length own = ap length e ∙ length-append before own in
    ap (λ (n : ℕ). take (to - from) (drop n all)) f
    ∙ (ap (take (to - from)) (behind_first all before own e) ∙ take_all (to - from) own (omega (arith, len, f, t)))

-- the node that is added
own_tokens : (before after : List Token) (head : Head) (own : List Token) → Adds before after head own
    → tokens_with head.kind head.hash (take (head.to - length before) (drop (length before) after)) ≡ own
own_tokens before after head own a =
    ap (tokens_with head.kind head.hash) (own_part after before a.kept head.to (length before) a.added refl a.to_is) ∙ sym a.own_is

nodes_append : (heads : List Head) (head : Head) (tokens : List Token) (from : ℕ)
    → nodes_in tokens from (heads ++ head ∷ []) ≡ nodes_in tokens from heads ++ node_in tokens (kept_up_to from heads) head ∷ []
nodes_append [] head tokens from = refl
nodes_append (h ∷ hs) head tokens from = ap (λ ns. node_in tokens from h ∷ ns) (nodes_append hs head tokens h.to)

pub nodes_more : (heads : List Head) (head : Head) (before after own : List Token) → AreWithin (length before) 0 heads → kept_up_to 0 heads ≡ length before
    → Adds before after head own → nodes_in after 0 (heads ++ head ∷ []) ≡ nodes_in before 0 heads ++ node_with own head ∷ []
nodes_more heads head before after own w all a =
    nodes_append heads head after 0
    ∙ (ap (λ ts. nodes_in ts 0 heads ++ node_in after (kept_up_to 0 heads) head ∷ []) a.added
    ∙ (ap (λ ns. ns ++ node_in after (kept_up_to 0 heads) head ∷ []) (nodes_kept heads 0 before a.kept w)
    ∙ (ap (λ n. nodes_in before 0 heads ++ node_in after n head ∷ []) all
    ∙ ap (λ ts. nodes_in before 0 heads ++ node_with ts head ∷ []) (own_tokens before after head own a))))

-- the tokens of each node lie among them
pub within_more : (heads : List Head) (from count more : ℕ) → count ≤ more → AreWithin count from heads → AreWithin more from heads
within_more [] from count more le w = tt
within_more (h ∷ hs) from count more le w = ((w.0.0, omega (arith, w.0.1)), within_more hs h.to count more le w.1)

within_last : (heads : List Head) (head : Head) (from count : ℕ) → kept_up_to from heads ≤ head.to → head.to ≤ count → AreWithin count from heads
    → AreWithin count from (heads ++ head ∷ [])
within_last [] head from count low high w = ((low, high), tt)
within_last (h ∷ hs) head from count low high w = (w.0, within_last hs head h.to count low high w.1)

pub all_within : (heads : List Head) (head : Head) (before after own : List Token) → AreWithin (length before) 0 heads → kept_up_to 0 heads ≡ length before
    → Adds before after head own → AreWithin (length after) 0 (heads ++ head ∷ [])
all_within heads head before after own w all a =
    let len : length after ≡ length before + length a.kept = ap length a.added ∙ length-append before a.kept in
    within_last heads head 0 (length after) (omega (arith, all, a.to_is, len)) (omega (arith, a.to_is))
    (within_more heads 0 (length before) (length after) (omega (arith, len)) w)

kept_last : (heads : List Head) (head : Head) (from : ℕ) → kept_up_to from (heads ++ head ∷ []) ≡ head.to
kept_last [] head from = refl
kept_last (h ∷ hs) head from = kept_last hs head h.to

-- they are all
pub all_kept : (heads : List Head) (head : Head) (before after own : List Token) → Adds before after head own → kept_up_to 0 (heads ++ head ∷ []) ≡ length after
all_kept heads head before after own a = kept_last heads head 0 ∙ a.to_is

pub within_at : (heads : List Head) (from count i : ℕ) (h : Head) → AreWithin count from heads → i < length heads → h ≡ get_or heads i h
    → (kept_up_to from (take i heads) ≤ h.to) × (h.to ≤ count)
within_at [] from count i h w lt e = absurd (omega arith)
within_at (x ∷ xs) from count zero h w lt e = rw e w.0
within_at (x ∷ xs) from count (suc i) h w lt e = within_at xs x.to count i h w.1 (omega arith) e

-- the tokens of those before a place end with the last of them
kept_to_last : (heads : List Head) (from i : ℕ) (h : Head) → i < length heads → h ≡ get_or heads i h → kept_up_to from (take (suc i) heads) ≡ h.to
kept_to_last [] from i h lt e = absurd (omega arith)
kept_to_last (x ∷ xs) from zero h lt e = ap (λ (y : Head). y.to) (sym e)
kept_to_last (x ∷ xs) from (suc i) h lt e = kept_to_last xs x.to i h (omega arith) e

pub kept_behind : (heads : List Head) (at : ℕ) (h : Head) → (at ≡ 0 → ⊥) → at ≤ length heads → h ≡ get_or heads (at - 1) h → h.to ≡ kept_up_to 0 (take at heads)
kept_behind heads zero h some lt e = absurd (some refl)
kept_behind heads (suc i) h some lt e =
    let on : suc i - 1 ≡ i = omega arith in
    sym (kept_to_last heads 0 i h (omega arith) (e ∙ ap (λ (k : ℕ). get_or heads k h) on))

-- as many nodes as heads
length_nodes : (heads : List Head) (tokens : List Token) (from : ℕ) → length (nodes_in tokens from heads) ≡ length heads
length_nodes [] tokens from = refl
length_nodes (h ∷ hs) tokens from = ap suc (length_nodes hs tokens h.to)

pub as_many : (heads : List Head) (tokens : List Token) (nodes : List Node) → nodes_in tokens 0 heads ≡ nodes → length nodes ≡ length heads
as_many heads tokens nodes e = ap length (sym e) ∙ length_nodes heads tokens 0

-- the node at a place
pub node_at : (heads : List Head) (tokens : List Token) (from i : ℕ) (h : Head) → i < length heads → h ≡ get_or heads i h
    → slice_get (nodes_in tokens from heads) i ≡ Some (node_in tokens (kept_up_to from (take i heads)) h)
node_at [] tokens from i h lt e = absurd (omega arith)
node_at (x ∷ xs) tokens from zero h lt e = ap (λ (y : Head). Some (node_in tokens from y)) (sym e)
node_at (x ∷ xs) tokens from (suc i) h lt e = node_at xs tokens x.to i h (omega arith) e

-- what of it stands behind its name
pub rest_of_text : (kind : NodeKind) (hash : Hash) (kept : List Token) → is_line kind ≡ false → rest_of (tokens_with kind hash kept) ≡ []
rest_of_text kind hash kept l = rw l refl

pub rest_of_line : (kind : NodeKind) (hash : Hash) (kept : List Token) → is_line kind ≡ true → rest_of (tokens_with kind hash kept) ≡ rest_behind_hash kept
rest_of_line kind hash kept l = rw l refl

-- nodes that agree but for their lines are of one kind
pub bone_kind : (a b : Head) (ts ts' : List Token) → bone_with ts a ≡ bone_with ts' b → a.kind ≡ b.kind
bone_kind a b ts ts' h = ap (λ (bone : Bone). bone.kind) h

-- texts agree
pub bones_text : (a b : Head) (ts ts' : List Token) → a.kind ≡ b.kind → is_line a.kind ≡ false → bone_with ts a ≡ bone_with ts' b
bones_text a b ts ts' k l = rw (sym k, l) refl

-- directives agree where their tokens do
pub bones_line : (a b : Head) (ts ts' : List Token) → a.kind ≡ b.kind → a.hash ≡ b.hash → ts ≡ ts' → bone_with ts a ≡ bone_with ts' b
bones_line a b ts ts' k x t = rw (sym k, x, t) refl

-- and only there
cons_parts : (x y : Token) (xs ys : List Token) → x ∷ xs ≡ y ∷ ys → (x ≡ y) × (xs ≡ ys)
cons_parts x y xs ys h = (cc, cc)

one_hash : (a b : Hash) → hash_token a ≡ hash_token b → a ≡ b
one_hash Sign Sign h = refl
one_hash Sign Digraph h = let e : 1 ≡ 2 = ap (λ (t : Token). length t.text) h in absurd (omega (arith, e))
one_hash Digraph Sign h = let e : 2 ≡ 1 = ap (λ (t : Token). length t.text) h in absurd (omega (arith, e))
one_hash Digraph Digraph h = refl

pub bone_parts : (a b : Head) (ts ts' : List Token) → a.kind ≡ b.kind → is_line a.kind ≡ true → bone_with ts a ≡ bone_with ts' b → (a.hash ≡ b.hash) × (ts ≡ ts')
bone_parts a b ts ts' k l h =
    let t : tokens_with a.kind a.hash ts ≡ tokens_with b.kind b.hash ts' = ap (λ (bone : Bone). bone.tokens) h in
    let u = cons_parts (hash_token a.hash) (hash_token b.hash) ts ts' (rw (sym k, l) at t) in
    (one_hash a.hash b.hash u.0, u.1)

pub same_of_some : (x y : Bone) → ◌≡◌ {A = Option Bone} (Some x) (Some y) → x ≡ y
same_of_some x y h = cc
