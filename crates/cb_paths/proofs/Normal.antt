-- Normal lists of parts, one part after another.
use Rattle.std.proofs.Common.{◌≡◌, ℕ, ◌&&◌, not, Bool, true, false, cond, List, [], ◌∷◌, ◌++◌, refl, ap, ◌∙◌}
use Rattle.std.specs.List.{list_all}
use Rattle.cb_paths.specs.Parts.{is_up, led, normal}

pub led_up : (p : List ℕ) (ps : List (List ℕ)) → is_up p ≡ true → led p ps ≡ p ∷ ps
led_up p [] e = refl
led_up p (q ∷ qs) e = rw e refl

pub led_goes : (p q : List ℕ) (qs : List (List ℕ)) → is_up p ≡ false → is_up q ≡ true → led p (q ∷ qs) ≡ qs
led_goes p q qs e f = rw (e, f) refl

pub led_stays : (p q : List ℕ) (qs : List (List ℕ)) → is_up q ≡ false → led p (q ∷ qs) ≡ p ∷ q ∷ qs
led_stays p q qs f =
    elim (is_up p) as (λ b. cond (not b && is_up q) qs (p ∷ q ∷ qs) ≡ p ∷ q ∷ qs) [ true ↦ refl | false ↦ rw f refl ]

-- the front of a list may be made normal first
led_again : (b c : Bool) (p q : List ℕ) (qs more : List (List ℕ)) → is_up p ≡ b → is_up q ≡ c → normal (led p (q ∷ qs) ++ more) ≡ led p (normal (q ∷ (qs ++ more)))
led_again true c p q qs more e f = rw led_up refl
led_again false false p q qs more e f = rw led_stays refl
led_again false true p q qs more e f = rw (led_goes p q qs e f, led_up q (normal (qs ++ more)) f, led_goes p q (normal (qs ++ more)) e f) refl

leads_again : (p : List ℕ) (ps more : List (List ℕ)) → normal (led p ps ++ more) ≡ led p (normal (ps ++ more))
leads_again p [] more = refl
leads_again p (q ∷ qs) more = led_again (is_up p) (is_up q) p q qs more refl refl

pub normal_front : (ps more : List (List ℕ)) → normal (normal ps ++ more) ≡ normal (ps ++ more)
normal_front [] more = refl
normal_front (p ∷ ps) more = leads_again p (normal ps) more ∙ ap (led p) (normal_front ps more)

-- a part and the `..` behind it go away
pub pair_goes : (front : List (List ℕ)) (p q : List ℕ) (more : List (List ℕ)) → is_up p ≡ false → is_up q ≡ true
    → normal (front ++ (p ∷ q ∷ more)) ≡ normal (front ++ more)
pair_goes [] p q more e f = rw (led_up q (normal more) f, led_goes p q (normal more) e f) refl
pair_goes (x ∷ xs) p q more e f = ap (led x) (pair_goes xs p q more e f)

-- no part is `..`
abbrev pub AreDown : List (List ℕ) → Type 0
AreDown [] = Unit {0}
AreDown (p ∷ ps) = (is_up p ≡ false) × AreDown ps

pub down-append : (ps qs : List (List ℕ)) → AreDown ps → AreDown qs → AreDown (ps ++ qs)
down-append [] qs h k = k
down-append (p ∷ ps) qs h k = (h.0, down-append ps qs h.1 k)

pub normal_down : (ps : List (List ℕ)) → AreDown ps → normal ps ≡ ps
normal_down [] h = refl
normal_down (p ∷ []) h = refl
normal_down (p ∷ q ∷ qs) h = rw (normal_down (q ∷ qs) h.1) (led_stays p q qs h.1.0)

-- all parts are `..`
abbrev pub AreUp : List (List ℕ) → Type 0
AreUp ps = list_all is_up ps ≡ true

pub up-head : (b c : Bool) → (b && c) ≡ true → b ≡ true
up-head true c h = refl
up-head false c h = h

pub up-tail : (b c : Bool) → (b && c) ≡ true → c ≡ true
up-tail true c h = h
up-tail false c h = cc

pub normal_ups : (us ps : List (List ℕ)) → AreUp us → AreDown ps → normal (us ++ ps) ≡ us ++ ps
normal_ups [] ps h k = normal_down ps k
normal_ups (u ∷ us) ps h k = rw (normal_ups us ps (up-tail (is_up u) _ h) k) (led_up u (us ++ ps) (up-head (is_up u) _ h))
