-- Gathering the arguments of a call by the heights of their ends.
use Rattle.std.proofs.Common.{◌≡◌, ℕ, zero, suc, ◌+◌, ◌-◌, ◌≤◌, ◌<◌, Bool, true, false, List, [], ◌∷◌, ◌++◌, length, take, drop, get_or, refl, ap, sym, ◌∙◌, subst, arith, Option, Some, None, ◌⊎◌, inl, inr}
use Rattle.std.specs.Prelude.{if◌then◌else◌}
use Rattle.std.specs.Option.{option_map}
use Rattle.std.proofs.lemmas.List.{append_assoc, take_at, length-map, length-append, get_or_default}
use Rattle.cb_paste.specs.declared.work_token.WorkToken.{WorkToken}
use Rattle.cb_paste.specs.Shades.{Shaded, seen}
use Rattle.cb_expand.specs.declared.sign.Sign.{Sign}
use Rattle.cb_expand.specs.declared.sign.Sign.TheVariants as signs
use Rattle.cb_expand.specs.declared.gathering.Turn.{Turn}
use Rattle.cb_expand.specs.declared.gathering.Turn.TheVariants.{Wrong, More, Last, Lacks}
use Rattle.cb_tokens.specs.Kinds.{is_identifier_kind}
use Rattle.std.specs.Prelude.{◌&&◌}
use Rattle.cb_expand.specs.Heads.{asked_of}
use Rattle.cb_expand.specs.Arguments.{sign, is_open, sign_of_token, Gathered, gather, closed, separated, alone, with_argument, from_end, before, is_close, is_comma}
use Rattle.cb_expand.specs.inner.Rows.{between, signs as signs_of, end_height}
use Rattle.cb_expand.specs.inner.Works.{seen_all, lacking}
use Rattle.cb_expand.specs.inner.Gathers.{turn_of, commas_end, with_front, by_turn, pieces, AreDescending, end_of, last_of, IsGathered, IsSoFar}
use Rattle.cb_tokens.specs.declared.token.TokenKind.TheVariants.{Punct}
use Rattle.cb_expand.proofs.Heights.{between_more, between_split, length_between, between_map, region_end, length_from_end}
use Rattle.cb_expand.proofs.Putting.{signs_are}

pub turn_close : (v : Bool) (left : ℕ) → (left ≡ 1 → ⊥) → (left ≡ 2 → ⊥) → turn_of signs.Close v left ≡ Wrong
unfolding turn_of
turn_close v zero h k = refl
turn_close v (suc zero) h k = absurd (h refl)
turn_close v (suc (suc zero)) h k = absurd (k refl)
turn_close true (suc (suc (suc n))) h k = refl
turn_close false (suc (suc (suc n))) h k = refl

pub turn_comma : (v : Bool) (left : ℕ) → 1 < left → turn_of signs.Comma v left ≡ More
unfolding turn_of
turn_comma v zero h = absurd (omega arith)
turn_comma v (suc zero) h = absurd (omega arith)
turn_comma v (suc (suc n)) h = refl

pub turn_comma_last : (v : Bool) (left : ℕ) → left ≤ 1 → turn_of signs.Comma v left ≡ Wrong
unfolding turn_of
turn_comma_last v zero h = refl
turn_comma_last v (suc zero) h = refl
turn_comma_last v (suc (suc n)) h = absurd (omega arith)

pub commas_more : (v : Bool) (left : ℕ) → (left ≡ 1 → ⊥) → commas_end v left ≡ true
unfolding commas_end
commas_more v zero h = refl
commas_more v (suc zero) h = absurd (h refl)
commas_more v (suc (suc n)) h = refl

pub ruleset turns = (turn_close, turn_comma, turn_comma_last, commas_more)

-- one argument, by what stands at its end
last_turn : (g : Sign) (v : Bool) (a : List Shaded) (c : Shaded) (rest : List Shaded) (others : Option Gathered)
    → (if is_close g then Some (record { arguments = a ∷ []; close = c; rest = rest }) else None) ≡ by_turn (turn_of g v 1) a c rest others
unfolding turn_of
last_turn signs.Close true a c rest others = refl
last_turn signs.Close false a c rest others = refl
last_turn signs.Comma v a c rest others = refl
last_turn signs.Open v a c rest others = refl
last_turn signs.Plain v a c rest others = refl

next_turn : (g : Sign) (v : Bool) (n : ℕ) (a : List Shaded) (c : Shaded) (rest : List Shaded) (others : Option Gathered) → sign_of_token c ≡ g
    → alone v n a (c ∷ rest) (if is_comma g then option_map (with_argument a) others else None) ≡ by_turn (turn_of g v (suc (suc n))) a c rest others
unfolding turn_of alone closed
next_turn signs.Close true zero a c rest others s = ap (λ g. if is_close g then Some (record { arguments = a ∷ [] ∷ []; close = c; rest = rest }) else None) s
next_turn signs.Close true (suc n) a c rest others s = refl
next_turn signs.Close false zero a c rest others s = refl
next_turn signs.Close false (suc n) a c rest others s = refl
next_turn signs.Comma true zero a c rest None s = ap (λ g. if is_close g then Some (record { arguments = a ∷ [] ∷ []; close = c; rest = rest }) else None) s
next_turn signs.Comma true zero a c rest (Some o) s = refl
next_turn signs.Comma true (suc n) a c rest others s = refl
next_turn signs.Comma false zero a c rest others s = refl
next_turn signs.Comma false (suc n) a c rest others s = refl
next_turn signs.Open true zero a c rest others s = ap (λ g. if is_close g then Some (record { arguments = a ∷ [] ∷ []; close = c; rest = rest }) else None) s
next_turn signs.Open true (suc n) a c rest others s = refl
next_turn signs.Open false zero a c rest others s = refl
next_turn signs.Open false (suc n) a c rest others s = refl
next_turn signs.Plain true zero a c rest others s = ap (λ g. if is_close g then Some (record { arguments = a ∷ [] ∷ []; close = c; rest = rest }) else None) s
next_turn signs.Plain true (suc n) a c rest others s = refl
next_turn signs.Plain false zero a c rest others s = refl
next_turn signs.Plain false (suc n) a c rest others s = refl

gather_turn : (g : Sign) (v : Bool) (n : ℕ) (ts a : List Shaded) (c : Shaded) (rest : List Shaded) → sign_of_token c ≡ g
    → from_end sign_of_token (commas_end v (suc n)) 0 ts ≡ c ∷ rest → before ts (c ∷ rest) ≡ a
    → gather v (suc n) ts ≡ by_turn (turn_of g v (suc n)) a c rest (gather v n rest)
unfolding gather commas_end closed separated
gather_turn g v zero ts a c rest s e b =
    ap (λ x. closed (before ts x ∷ []) x) e
    ∙ (ap (λ x. closed (x ∷ []) (c ∷ rest)) b
    ∙ (ap (λ g. if is_close g then Some (record { arguments = a ∷ []; close = c; rest = rest }) else None) s ∙ last_turn g v a c rest (gather v zero rest)))
gather_turn g v (suc n) ts a c rest s e b =
    ap (λ x. alone v n (before ts x) x (separated (before ts x) x (gather v (suc n) (drop 1 x)))) e
    ∙ (ap (λ x. alone v n x (c ∷ rest) (separated x (c ∷ rest) (gather v (suc n) rest))) b
    ∙ (ap (λ g. alone v n a (c ∷ rest) (if is_comma g then option_map (with_argument a) (gather v (suc n) rest) else None)) s ∙ next_turn g v n a c rest (gather v (suc n) rest) s))

none_alone : (v : Bool) (n : ℕ) (a : List Shaded) → alone v n a [] None ≡ None
unfolding alone closed
none_alone true zero a = refl
none_alone true (suc n) a = refl
none_alone false zero a = refl
none_alone false (suc n) a = refl

gather_none : (v : Bool) (n : ℕ) (ts : List Shaded) → from_end sign_of_token (commas_end v (suc n)) 0 ts ≡ [] → gather v (suc n) ts ≡ None
unfolding gather commas_end closed separated
gather_none v zero ts e = ap (λ x. closed (before ts x ∷ []) x) e
gather_none v (suc n) ts e = ap (λ x. alone v n (before ts x) x (separated (before ts x) x (gather v (suc n) (drop 1 x)))) e ∙ none_alone v n (before ts [])

-- the row's heights are those of the tokens with their hide sets
height_is : (sets : List (List ℕ)) (ts : List WorkToken) (commas : Bool) (height : ℕ)
    → length (from_end sign_of_token commas 0 (between 0 height (seen_all sets ts))) ≡ end_height commas (signs_of ts) height
unfolding end_height
height_is sets ts commas height =
    length_from_end sign_of_token commas 0 (between 0 height (seen_all sets ts))
    ∙ ap (λ xs. length (from_end (λ (x : Sign). x) commas 0 xs)) (between_map sign_of_token 0 height (seen_all sets ts) ∙ ap (between 0 height) (signs_are sets ts))

pub sign_is : (sets : List (List ℕ)) (ts : List WorkToken) (i : ℕ) (d : Shaded) (g : Sign) → i < length ts → get_or (signs_of ts) i g ≡ g → sign_of_token (get_or (seen_all sets ts) i d) ≡ g
sign_is sets [] i d g h e = absurd (omega arith)
sign_is sets (t ∷ ts) zero d g h e = e
sign_is sets (t ∷ ts) (suc i) d g h e = sign_is sets ts i d g (omega arith) e

-- what stands above a height
before_is : (low middle high : ℕ) (ss : List Shaded) → low ≤ middle → middle ≤ high → high ≤ length ss
    → before (between low high ss) (between low middle ss) ≡ between middle high ss
before_is low middle high ss a b c =
    let n : length (between low high ss) - length (between low middle ss) ≡ high - middle = omega (arith, length_between low high ss c, length_between low middle ss (omega arith)) in
    ap (λ n. take n (between low high ss)) n
    ∙ (ap (take (high - middle)) (between_split low middle high ss a b c) ∙ take_at (between middle high ss) (between low middle ss) (high - middle) (length_between middle high ss c))

module _ (sets : List (List ℕ)) (ts : List WorkToken) (floor : ℕ) (v : Bool) (left from end : ℕ) (some : 0 < left) (a : floor ≤ from) (b : from ≤ length ts)
    (e : end ≡ end_height (commas_end v left) (signs_of ts) from) where
  region : ((length (from_end sign_of_token (commas_end v left) 0 (between 0 from (seen_all sets ts))) ≤ floor) × (from_end sign_of_token (commas_end v left) 0 (between floor from (seen_all sets ts)) ≡ []))
      ⊎ ((floor < length (from_end sign_of_token (commas_end v left) 0 (between 0 from (seen_all sets ts)))) × (length (from_end sign_of_token (commas_end v left) 0 (between 0 from (seen_all sets ts))) ≤ from)
      × (from_end sign_of_token (commas_end v left) 0 (between floor from (seen_all sets ts)) ≡ between floor (length (from_end sign_of_token (commas_end v left) 0 (between 0 from (seen_all sets ts)))) (seen_all sets ts)))
  region = region_end sign_of_token (commas_end v left) floor from (seen_all sets ts) a (omega (arith, length-map ts (seen sets)))

  pub turn_none : end ≤ floor → gather v left (between floor from (seen_all sets ts)) ≡ None
  turn_none h =
      let k = height_is sets ts (commas_end v left) from in
      none_by left some (elim region [ inl q ↦ q.1 | inr q ↦ absurd (omega (arith, q.0, k, e)) ])
    where
      none_by : (n : ℕ) → 0 < n → from_end sign_of_token (commas_end v n) 0 (between floor from (seen_all sets ts)) ≡ [] → gather v n (between floor from (seen_all sets ts)) ≡ None
      none_by zero p q = absurd (omega arith)
      none_by (suc n) p q = gather_none v n (between floor from (seen_all sets ts)) q

  pub turn_is : (g : Sign) (d : Shaded) → floor < end → get_or (signs_of ts) (end - 1) g ≡ g
      → gather v left (between floor from (seen_all sets ts))
      ≡ by_turn (turn_of g v left) (between end from (seen_all sets ts)) (get_or (seen_all sets ts) (end - 1) d) (between floor (end - 1) (seen_all sets ts)) (gather v (left - 1) (between floor (end - 1) (seen_all sets ts)))
  turn_is g d h s =
      let k = height_is sets ts (commas_end v left) from in
      let l = length-map ts (seen sets) in
      let within : end ≤ from = elim region [ inl q ↦ absurd (omega (arith, q.0, k, e)) | inr q ↦ omega (arith, q.1, k, e) ] in
      let f : from_end sign_of_token (commas_end v left) 0 (between floor from (seen_all sets ts)) ≡ between floor end (seen_all sets ts) =
      elim region [ inl q ↦ absurd (omega (arith, q.0, k, e)) | inr q ↦ q.2 ∙ ap (λ n. between floor n (seen_all sets ts)) (k ∙ sym e) ] in
      let n : end - 1 + 1 ≡ end = omega arith in
      let top : between floor end (seen_all sets ts) ≡ get_or (seen_all sets ts) (end - 1) d ∷ between floor (end - 1) (seen_all sets ts) =
      ap (λ n. between floor n (seen_all sets ts)) (sym n) ∙ between_more floor (end - 1) (seen_all sets ts) d (omega arith) (omega arith) in
      turn_by left some (f ∙ top)
      (ap (before (between floor from (seen_all sets ts))) (sym top) ∙ before_is floor end from (seen_all sets ts) (omega arith) within (omega arith))
      (sign_is sets ts (end - 1) d g (omega arith) s)
    where
      turn_by : (n : ℕ) → 0 < n
          → from_end sign_of_token (commas_end v n) 0 (between floor from (seen_all sets ts)) ≡ get_or (seen_all sets ts) (end - 1) d ∷ between floor (end - 1) (seen_all sets ts)
          → before (between floor from (seen_all sets ts)) (get_or (seen_all sets ts) (end - 1) d ∷ between floor (end - 1) (seen_all sets ts)) ≡ between end from (seen_all sets ts)
          → sign_of_token (get_or (seen_all sets ts) (end - 1) d) ≡ g
          → gather v n (between floor from (seen_all sets ts))
          ≡ by_turn (turn_of g v n) (between end from (seen_all sets ts)) (get_or (seen_all sets ts) (end - 1) d) (between floor (end - 1) (seen_all sets ts)) (gather v (n - 1) (between floor (end - 1) (seen_all sets ts)))
      turn_by zero p x y z = absurd (omega arith)
      turn_by (suc n) p x y z =
          let m : n ≡ suc n - 1 = omega arith in
          gather_turn g v n (between floor from (seen_all sets ts)) (between end from (seen_all sets ts)) (get_or (seen_all sets ts) (end - 1) d) (between floor (end - 1) (seen_all sets ts)) z x y
          ∙ ap (λ k. by_turn (turn_of g v (suc n)) (between end from (seen_all sets ts)) (get_or (seen_all sets ts) (end - 1) d) (between floor (end - 1) (seen_all sets ts)) (gather v k (between floor (end - 1) (seen_all sets ts)))) m

-- one end more
pub pieces_push : (xs : List Shaded) (from : ℕ) (es : List ℕ) (e : ℕ) → pieces xs from (es ++ e ∷ []) ≡ pieces xs from es ++ between e (end_of from es) xs ∷ []
pieces_push xs from [] e = refl
pieces_push xs from (x ∷ es) e = ap (λ ys. between x from xs ∷ ys) (pieces_push xs (x - 1) es e)

pub end_push : (from : ℕ) (es : List ℕ) (e : ℕ) → end_of from (es ++ e ∷ []) ≡ e - 1
end_push from [] e = refl
end_push from (x ∷ es) e = end_push (x - 1) es e

pub last_push : (from : ℕ) (es : List ℕ) (e : ℕ) → last_of from (es ++ e ∷ []) ≡ e
last_push from [] e = refl
last_push from (x ∷ es) e = last_push x es e

pub descending_push : (from floor : ℕ) (es : List ℕ) (e : ℕ) → AreDescending from floor es → e ≤ end_of from es → floor < e → AreDescending from floor (es ++ e ∷ [])
descending_push from floor [] e h a b = (a, b, tt)
descending_push from floor (x ∷ es) e h a b = (h.0, h.1, descending_push (x - 1) floor es e h.2 a b)

pub end_within : (from floor : ℕ) (es : List ℕ) → AreDescending from floor es → end_of from es ≤ from
end_within from floor [] h = omega arith
end_within from floor (x ∷ es) h = omega (arith, end_within (x - 1) floor es h.2, h.0)

pub behind_one : (args : List (List Shaded)) (a : List Shaded) (o : Option Gathered) → with_front args (option_map (with_argument a) o) ≡ with_front (args ++ a ∷ []) o
behind_one args a None = refl
behind_one args a (Some g) = ap (λ xs. Some (record g { arguments = xs })) (sym (append_assoc args (a ∷ []) g.arguments))

pub no_token : Shaded
no_token = record { kind = Punct; spaced = false; text = []; hides = λ n. false }

more_left : (g : Sign) (v : Bool) (left : ℕ) → turn_of g v left ≡ More → 1 < left
unfolding turn_of
more_left signs.Comma v zero e = cc
more_left signs.Comma v (suc zero) e = cc
more_left signs.Comma v (suc (suc n)) e = omega arith
more_left signs.Close v zero e = cc
more_left signs.Close v (suc zero) e = cc
more_left signs.Close true (suc (suc zero)) e = cc
more_left signs.Close false (suc (suc zero)) e = cc
more_left signs.Close true (suc (suc (suc n))) e = cc
more_left signs.Close false (suc (suc (suc n))) e = cc
more_left signs.Open v left e = cc
more_left signs.Plain v left e = cc

module _ (ts : List WorkToken) (floor height count : ℕ) (v : Bool) (ends : List ℕ) (from left : ℕ) (h : IsSoFar ts floor height count v ends from left)
    (b : height ≤ length ts) (end : ℕ) (e : end ≡ end_height (commas_end v left) (signs_of ts) from) where
  pub from_within : from ≤ height
  from_within = omega (arith, h.from_is, end_within height floor ends h.descending)

  pub so_far_none : end ≤ floor → (sets : List (List ℕ)) → gather v count (between floor height (seen_all sets ts)) ≡ None
  so_far_none k sets =
      h.is sets ∙ ap (with_front (pieces (seen_all sets ts) height ends)) (turn_none sets ts floor v left from end h.some h.above (omega (arith, from_within)) e k)

  module _ (fl : floor < end) (below : end ≤ from) (g : Sign) (s : (other : Sign) → get_or (signs_of ts) (end - 1) other ≡ g) (all : List ℕ) (a : all ≡ ends ++ end ∷ []) where
    so_far : (t : Turn) → turn_of g v left ≡ t → (sets : List (List ℕ)) → gather v count (between floor height (seen_all sets ts))
        ≡ with_front (pieces (seen_all sets ts) height ends) (by_turn t (between end from (seen_all sets ts)) (get_or (seen_all sets ts) (end - 1) no_token) (between floor (end - 1) (seen_all sets ts)) (gather v (left - 1) (between floor (end - 1) (seen_all sets ts))))
    so_far t m sets =
        h.is sets ∙ ap (with_front (pieces (seen_all sets ts) height ends))
        (turn_is sets ts floor v left from end h.some h.above (omega (arith, from_within)) e g no_token fl (s g)
        ∙ ap (λ t. by_turn t (between end from (seen_all sets ts)) (get_or (seen_all sets ts) (end - 1) no_token) (between floor (end - 1) (seen_all sets ts)) (gather v (left - 1) (between floor (end - 1) (seen_all sets ts)))) m)

    all_pieces : (ss : List Shaded) → pieces ss height all ≡ pieces ss height ends ++ between end from ss ∷ []
    all_pieces ss = ap (pieces ss height) a ∙ (pieces_push ss height ends end ∙ ap (λ n. pieces ss height ends ++ between end n ss ∷ []) (sym h.from_is))

    all_last : last_of height all ≡ end
    all_last = ap (last_of height) a ∙ last_push height ends end

    all_down : AreDescending height floor all
    all_down = subst (λ xs. AreDescending height floor xs) (sym a) (descending_push height floor ends end h.descending (omega (arith, below, h.from_is)) fl)

    pub so_far_wrong : turn_of g v left ≡ Wrong → (sets : List (List ℕ)) → gather v count (between floor height (seen_all sets ts)) ≡ None
    so_far_wrong m sets = so_far Wrong m sets

    gathered_at : (lacks : Bool) (sets : List (List ℕ))
        → gather v count (between floor height (seen_all sets ts)) ≡ Some (record { arguments = pieces (seen_all sets ts) height ends ++ (between end from (seen_all sets ts) ∷ lacking lacks); close = get_or (seen_all sets ts) (end - 1) no_token; rest = between floor (end - 1) (seen_all sets ts) })
        → IsGathered (gather v count (between floor height (seen_all sets ts))) (seen_all sets ts) count floor height all lacks
    gathered_at lacks sets m =
        let ss = seen_all sets ts in
        let l = all_last in
        let args : pieces ss height ends ++ (between end from ss ∷ lacking lacks) ≡ pieces ss height all ++ lacking lacks =
        sym (append_assoc (pieces ss height ends) (between end from ss ∷ []) (lacking lacks)) ∙ ap (λ xs. xs ++ lacking lacks) (sym (all_pieces ss)) in
        let k = length-map ts (seen sets) in
        record {
          close = get_or ss (end - 1) no_token;
          at = λ other. ap (λ n. get_or ss (n - 1) other) l ∙ get_or_default ss (end - 1) other no_token (omega (arith, from_within));
          is = m ∙ (ap (λ xs. Some (record { arguments = xs; close = get_or ss (end - 1) no_token; rest = between floor (end - 1) ss })) args
              ∙ ap (λ n. Some (record { arguments = pieces ss height all ++ lacking lacks; close = get_or ss (end - 1) no_token; rest = between floor (n - 1) ss })) (sym l));
          descending = all_down;
          above = omega (arith, l, fl);
          within = omega (arith, l, below, from_within);
          few = omega (arith, ap length a, length-append ends (end ∷ []), h.counted, h.some);
        }

    pub so_far_last : turn_of g v left ≡ Last → (sets : List (List ℕ)) → IsGathered (gather v count (between floor height (seen_all sets ts))) (seen_all sets ts) count floor height all false
    so_far_last m sets = gathered_at false sets (so_far Last m sets)

    pub so_far_lacks : turn_of g v left ≡ Lacks → (sets : List (List ℕ)) → IsGathered (gather v count (between floor height (seen_all sets ts))) (seen_all sets ts) count floor height all true
    so_far_lacks m sets = gathered_at true sets (so_far Lacks m sets)

    pub so_far_more : turn_of g v left ≡ More → IsSoFar ts floor height count v all (end - 1) (left - 1)
    so_far_more m = record {
      some = omega (arith, more_left g v left m);
      counted = omega (arith, more_left g v left m, ap length a, length-append ends (end ∷ []), h.counted);
      from_is = sym (ap (end_of height) a ∙ end_push height ends end);
      above = omega (arith, fl);
      descending = all_down;
      is = λ sets.
          so_far More m sets
          ∙ (behind_one (pieces (seen_all sets ts) height ends) (between end from (seen_all sets ts)) (gather v (left - 1) (between floor (end - 1) (seen_all sets ts)))
          ∙ ap (λ xs. with_front xs (gather v (left - 1) (between floor (end - 1) (seen_all sets ts)))) (sym (all_pieces (seen_all sets ts))));
    }

-- no parameters
none_gathered : (v : Bool) (ts : List Shaded) (c : Shaded) (rest : List Shaded) → ts ≡ c ∷ rest → is_close (sign_of_token c) ≡ true → gather v 0 ts ≡ Some (record { arguments = []; close = c; rest = rest })
unfolding gather closed
none_gathered v ts c rest e s = ap (λ x. closed [] x) e ∙ ap (λ b. if b then Some (record { arguments = []; close = c; rest = rest }) else None) s

pub none_wrong : (sets : List (List ℕ)) (ts : List WorkToken) (floor height : ℕ) (v : Bool) (g : Sign) → floor < height → height ≤ length ts → ((other : Sign) → get_or (signs_of ts) (height - 1) other ≡ g) → is_close g ≡ false
    → gather v 0 (between floor height (seen_all sets ts)) ≡ None
unfolding gather closed
none_wrong sets ts floor height v g a b s n =
    let ss = seen_all sets ts in
    let l = length-map ts (seen sets) in
    let m : height - 1 + 1 ≡ height = omega arith in
    let top : between floor height ss ≡ get_or ss (height - 1) no_token ∷ between floor (height - 1) ss =
    ap (λ n. between floor n ss) (sym m) ∙ between_more floor (height - 1) ss no_token (omega arith) (omega arith) in
    ap (λ x. closed [] x) top
    ∙ ap (λ b. if b then Some (record { arguments = []; close = get_or ss (height - 1) no_token; rest = between floor (height - 1) ss }) else None)
    (ap is_close (sign_is sets ts (height - 1) no_token g (omega arith) (s g)) ∙ n)

pub none_empty : (v : Bool) (ts : List Shaded) → ts ≡ [] → gather v 0 ts ≡ None
unfolding gather closed
none_empty v ts e = ap (λ x. closed [] x) e

pub none_is : (sets : List (List ℕ)) (ts : List WorkToken) (floor height : ℕ) (v : Bool) (g : Sign) (ends : List ℕ) → floor < height → height ≤ length ts → ((other : Sign) → get_or (signs_of ts) (height - 1) other ≡ g) → is_close g ≡ true → ends ≡ []
    → IsGathered (gather v 0 (between floor height (seen_all sets ts))) (seen_all sets ts) 0 floor height ends false
none_is sets ts floor height v g ends a b s n e =
    let ss = seen_all sets ts in
    let l = length-map ts (seen sets) in
    let m : height - 1 + 1 ≡ height = omega arith in
    let top : between floor height ss ≡ get_or ss (height - 1) no_token ∷ between floor (height - 1) ss =
    ap (λ n. between floor n ss) (sym m) ∙ between_more floor (height - 1) ss no_token (omega arith) (omega arith) in
    let made : IsGathered (gather v 0 (between floor height ss)) ss 0 floor height [] false = record {
      close = get_or ss (height - 1) no_token;
      at = λ other. get_or_default ss (height - 1) other no_token (omega arith);
      is = none_gathered v (between floor height ss) (get_or ss (height - 1) no_token) (between floor (height - 1) ss) top (ap is_close (sign_is sets ts (height - 1) no_token g (omega arith) (s g)) ∙ n);
      descending = tt;
      above = a;
      within = omega arith;
      few = omega arith;
    } in
    subst (λ es. IsGathered (gather v 0 (between floor height ss)) ss 0 floor height es false) (sym e) made

-- the token on top
pub between_seen : (sets : List (List ℕ)) (ts : List WorkToken) (low i : ℕ) (t : WorkToken) → low ≤ i → i < length ts → t ≡ get_or ts i t
    → between low (i + 1) (seen_all sets ts) ≡ seen sets t ∷ between low i (seen_all sets ts)
between_seen sets ts low i t a b e =
    between_more low i (seen_all sets ts) (seen sets t) a (omega (arith, length-map ts (seen sets)))
    ∙ ap (λ x. x ∷ between low i (seen_all sets ts)) (seen_at ts i e)
  where
    seen_at : (ts : List WorkToken) (i : ℕ) → t ≡ get_or ts i t → get_or (seen_all sets ts) i (seen sets t) ≡ seen sets t
    seen_at [] i e = refl
    seen_at (x ∷ xs) zero e = ap (seen sets) (sym e)
    seen_at (x ∷ xs) (suc i) e = seen_at xs i e

pub asked_three : (sets : List (List ℕ)) (p x c : WorkToken) (ts : List Shaded) (b : Bool) → is_identifier_kind p.kind ≡ false → is_open (sign p.kind p.text) ≡ true → is_identifier_kind x.kind ≡ true
    → is_close (sign c.kind c.text) ≡ b → asked_of (seen sets p ∷ seen sets x ∷ seen sets c ∷ ts) ≡ (if b then Some (x.text, ts) else None)
asked_three sets p x c ts b e o i k =
    ap (λ b. if b then Some (p.text, seen sets x ∷ seen sets c ∷ ts) else (if is_open (sign p.kind p.text) && is_identifier_kind x.kind && is_close (sign c.kind c.text) then Some (x.text, ts) else None)) e
    ∙ (ap (λ b. if b && is_identifier_kind x.kind && is_close (sign c.kind c.text) then Some (x.text, ts) else None) o
    ∙ (ap (λ b. if b && is_close (sign c.kind c.text) then Some (x.text, ts) else None) i ∙ ap (λ b. if b then Some (x.text, ts) else None) k))

pub three_tops : (sets : List (List ℕ)) (ts : List WorkToken) (floor n : ℕ) (p x c : WorkToken) → floor + 3 ≤ n → n ≤ length ts → p ≡ get_or ts (n - 1) p → x ≡ get_or ts (n - 2) x → c ≡ get_or ts (n - 3) c
    → between floor n (seen_all sets ts) ≡ seen sets p ∷ seen sets x ∷ seen sets c ∷ between floor (n - 3) (seen_all sets ts)
three_tops sets ts floor n p x c a b e f g =
    let h : n - 1 + 1 ≡ n = omega arith in
    let i : n - 2 + 1 ≡ n - 1 = omega arith in
    let j : n - 3 + 1 ≡ n - 2 = omega arith in
    let ss = seen_all sets ts in
    ap (λ n. between floor n ss) (sym h) ∙ (between_seen sets ts floor (n - 1) p (omega arith) (omega arith) e
    ∙ (ap (λ k. seen sets p ∷ between floor k ss) (sym i) ∙ (ap (λ xs. seen sets p ∷ xs) (between_seen sets ts floor (n - 2) x (omega arith) (omega arith) f)
    ∙ (ap (λ k. seen sets p ∷ seen sets x ∷ between floor k ss) (sym j) ∙ ap (λ xs. seen sets p ∷ seen sets x ∷ xs) (between_seen sets ts floor (n - 3) c (omega arith) (omega arith) g)))))
