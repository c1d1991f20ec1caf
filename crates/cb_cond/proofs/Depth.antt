-- Counting what is open symbol by symbol.
use Rattle.std.proofs.Common.{◌≡◌, ℕ, ◌+◌, ◌<◌, ◌≤◌, Bool, true, false, cond, List, refl, length, get_or, take, count_by, ⊎_elim, inl, inr, ap, sym, ◌∙◌, arith}
use Rattle.std.specs.Prelude.{if◌then◌else◌}
use Rattle.std.proofs.lemmas.List.Sums.{sum_by_push, sum_by-take-le, count_by-le-length}
use Rattle.std.proofs.lemmas.Bool.{cases_lt}
use Rattle.std.proofs.lemmas.List.{take_more, take_all}
use Rattle.cb_cond.specs.declared.symbol.Symbol.{Symbol}
use Rattle.cb_cond.specs.declared.symbol.Symbol.TheVariants.{CloseParenthesis}
use Rattle.cb_cond.specs.declared.nesting.Slack.{Slack}
use Rattle.cb_cond.specs.Faults.{is_open, is_close, is_question, IsTooDeep}
use Rattle.cb_cond.specs.inner.Attempts.{HasRoom, IsSpent, IsSlackBehind}

-- behind the first i symbols this much may be opened
pub record Leaves (ss : List Symbol) (i : ℕ) (slack : Slack) : Type 0 where
  pub opened : slack.parentheses + count_by is_open (take i ss) ≡ count_by is_close (take i ss) + 256
  pub bounded : (k : ℕ) → k < i + 1 → count_by is_open (take k ss) ≤ count_by is_close (take k ss) + 256
  pub asked : slack.questions + count_by is_question (take i ss) ≡ 256

-- a symbol that opens and closes what another does
pub record IsLike (s t : Symbol) : Type 0 where
  pub opens : is_open s ≡ is_open t
  pub closes : is_close s ≡ is_close t
  pub asks : is_question s ≡ is_question t

count-more : (p : Symbol → Bool) (ss : List Symbol) (i : ℕ) (s : Symbol) → i < length ss → get_or ss i s ≡ s
    → count_by p (take (i + 1) ss) ≡ count_by p (take i ss) + (if p s then 1 else 0)
count-more p ss i s l e =
    ap (count_by p) (take_more ss i s l) ∙ sum_by_push (λ t. cond (p t) 1 0) (take i ss) (get_or ss i s)
    ∙ ap (λ t. count_by p (take i ss) + (if p t then 1 else 0)) e

pub leaves-start : (ss : List Symbol) → Leaves ss 0 (record { parentheses = 256; questions = 256 })
leaves-start ss = record { opened = omega arith; bounded = λ k l. let e : k ≡ 0 = omega arith in rw e (omega arith); asked = omega arith }

pub leaves-next : (ss : List Symbol) (i : ℕ) (s t : Symbol) (slack behind : Slack) → i < length ss → get_or ss i s ≡ s → IsLike t s → Leaves ss i slack → IsSlackBehind slack t behind
    → Leaves ss (i + 1) behind
leaves-next ss i s t slack behind l e like h r =
    let a = count-more is_open ss i s l e in
    let b = count-more is_close ss i s l e in
    let d = count-more is_question ss i s l e in
    let x : ◌≡◌ {A = ℕ} (if is_open t then 1 else 0) (if is_open s then 1 else 0) = ap (λ (v : Bool). if v then 1 else 0) like.opens in
    let y : ◌≡◌ {A = ℕ} (if is_close t then 1 else 0) (if is_close s then 1 else 0) = ap (λ (v : Bool). if v then 1 else 0) like.closes in
    let z : ◌≡◌ {A = ℕ} (if is_question t then 1 else 0) (if is_question s then 1 else 0) = ap (λ (v : Bool). if v then 1 else 0) like.asks in
    let opened : behind.parentheses + count_by is_open (take (i + 1) ss) ≡ count_by is_close (take (i + 1) ss) + 256 = omega (arith, h.opened, r.parentheses) in
    record {
      opened = opened;
      bounded = λ k m. ⊎_elim (λ below. h.bounded k below) (λ (above : i + 1 ≤ k). let same : k ≡ i + 1 = omega arith in rw same (omega (arith, opened))) (cases_lt k (i + 1));
      asked = omega (arith, h.asked, r.questions);
    }

bit-small : (v : Bool) → (if v then 1 else 0) ≤ 1
bit-small true = omega arith
bit-small false = omega arith

pub slack-small : (slack behind : Slack) (s : Symbol) (n : ℕ) → IsSlackBehind slack s behind → slack.parentheses ≤ n → behind.parentheses ≤ n + 1
slack-small slack behind s n r l = omega (arith, r.parentheses, bit-small (is_close s))

open-alone : (s : Symbol) → is_open s ≡ true → is_close s ≡ false
unfolding is_open is_close
open-alone CloseParenthesis e = cc
open-alone _ e = refl

-- a symbol that opens too much
pub too-deep : (ss : List Symbol) (i : ℕ) (s t : Symbol) (slack : Slack) → i < length ss → get_or ss i s ≡ s → IsLike t s → Leaves ss i slack → IsSpent slack t → IsTooDeep ss
too-deep ss i s t slack l e like h r =
    let a = count-more is_open ss i s l e in
    let b = count-more is_close ss i s l e in
    let d = count-more is_question ss i s l e in
    let m = sum_by-take-le (λ u. cond (is_question u) 1 0) ss (i + 1) in
    ⊎_elim
    (λ (q : (is_open t ≡ true) × (slack.parentheses ≡ 0)).
    let x : ◌≡◌ {A = ℕ} (if is_open s then 1 else 0) 1 = ap (λ (v : Bool). if v then 1 else 0) (sym like.opens ∙ q.0) in
    let y : ◌≡◌ {A = ℕ} (if is_close s then 1 else 0) 0 = ap (λ (v : Bool). if v then 1 else 0) (open-alone s (sym like.opens ∙ q.0)) in
    inl (i + 1, omega (arith, h.opened, q.1)))
    (λ (q : (is_question t ≡ true) × (slack.questions ≡ 0)).
    let x : ◌≡◌ {A = ℕ} (if is_question s then 1 else 0) 1 = ap (λ (v : Bool). if v then 1 else 0) (sym like.asks ∙ q.0) in
    inr (omega (arith, h.asked, q.1)))
    r

-- all symbols were counted
pub not-deep : (ss : List Symbol) (i : ℕ) (slack : Slack) → length ss ≤ i → Leaves ss i slack → IsTooDeep ss → ⊥
not-deep ss i slack l h d =
    ⊎_elim
    (λ (q : (k : ℕ) × (count_by is_close (take k ss) + 256 < count_by is_open (take k ss))).
    ⊎_elim
    (λ below. let b = h.bounded q.0 below in omega (arith, q.1))
    (λ (above : i + 1 ≤ q.0).
    let b = h.bounded i (omega arith) in
    let whole : take i ss ≡ take q.0 ss = take_all i ss l ∙ sym (take_all q.0 ss (omega arith)) in
    let o = ap (count_by is_open) whole in
    let c = ap (count_by is_close) whole in
    omega (arith, q.1))
    (cases_lt q.0 (i + 1)))
    (λ (q : 256 < count_by is_question ss). let e = ap (count_by is_question) (take_all i ss l) in omega (arith, h.asked))
    d

-- too few symbols to be too deep
pub short-flat : (ss : List Symbol) → length ss ≤ 256 → IsTooDeep ss → ⊥
short-flat ss l d =
    ⊎_elim
    (λ (q : (k : ℕ) × (count_by is_close (take k ss) + 256 < count_by is_open (take k ss))).
    let a = sum_by-take-le (λ u. cond (is_open u) 1 0) ss q.0 in
    let b = count_by-le-length is_open ss in
    omega (arith, q.1))
    (λ (q : 256 < count_by is_question ss). let b = count_by-le-length is_question ss in omega arith)
    d

-- what is not too deep has room among 3083 frames
pub flat-room : (ss : List Symbol) → (IsTooDeep ss → ⊥) → HasRoom ss 3083
flat-room ss h = (
  256,
  λ k. ⊎_elim (λ (deep : count_by is_close (take k ss) + 256 < count_by is_open (take k ss)). absurd (h (inl (k, deep)))) (λ flat. flat) (cases_lt (count_by is_close (take k ss) + 256) (count_by is_open (take k ss))),
  ⊎_elim (λ (many : 256 < count_by is_question ss). absurd (h (inr many))) (λ few. omega arith) (cases_lt 256 (count_by is_question ss)),
)
