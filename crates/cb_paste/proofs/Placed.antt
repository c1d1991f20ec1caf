-- All that a call puts in lies on the stack.
use Rattle.std.proofs.Common.{◌≡◌, ℕ, ◌≤◌, Bool, List, [], ◌∷◌, ◌++◌, length, refl, sym, ◌∙◌, ap}
use Rattle.std.proofs.lemmas.List.{nil_from_length}
use Rattle.cb_paste.specs.declared.part.Part.{Part}
use Rattle.cb_paste.specs.declared.work_token.WorkToken.{WorkToken}
use Rattle.cb_paste.specs.Sets.{hides, Extends}
use Rattle.cb_paste.specs.Shades.{Shaded, waiting, all_shaded, first_spaced, AreIn}
use Rattle.cb_paste.specs.Joins.{Put, reals}
use Rattle.cb_paste.specs.Puts.{Given, put_from, puts}
use Rattle.cb_paste.proofs.Stacks.{hides_same, waiting_kept}

length-first_spaced : (spaced : Bool) (ts : List Shaded) → length (first_spaced spaced ts) ≡ length ts
length-first_spaced spaced [] = refl
length-first_spaced spaced (t ∷ ts) = refl

pub length-puts : (gs : List Given) (spaced : Bool) (ps : List Part) → length (puts gs spaced ps) ≡ length (reals (put_from gs [] ps))
unfolding puts
length-puts gs spaced ps = length-first_spaced spaced (reals (put_from gs [] ps))

pub puts_is : (gs : List Given) (spaced : Bool) (ps : List Part) → puts gs spaced ps ≡ first_spaced spaced (reals (put_from gs [] ps))
unfolding puts
puts_is gs spaced ps = refl

pub puts_none : (gs : List Given) (spaced : Bool) (ps : List Part) → length (reals (put_from gs [] ps)) ≡ 0 → puts gs spaced ps ≡ reals (put_from gs [] ps)
puts_none gs spaced ps h = puts_is gs spaced ps ∙ (ap (λ l. first_spaced spaced l) (nil_from_length _ h) ∙ sym (nil_from_length _ h))

-- the stack, seen through the arena before the call
pub placed : {a b : List (List ℕ)} → Extends a b → (extra : ℕ) → extra ≤ length a → (stack : List WorkToken) → AreIn (length a) stack → (ms ds : List Put) → ms ≡ ds → (seen : List Shaded) → seen ≡ all_shaded (hides b extra) (reals ms) ++ waiting b stack → seen ≡ all_shaded (hides a extra) (reals ds) ++ waiting a stack
placed {a} {b} e extra h stack o ms ds same seen is =
    is
    ∙ (ap (λ l. all_shaded (hides b extra) (reals l) ++ waiting b stack) same
    ∙ (ap (λ f. all_shaded f (reals ds) ++ waiting b stack) (hides_same e extra h)
    ∙ ap (λ l. all_shaded (hides a extra) (reals ds) ++ l) (waiting_kept e stack o)))
