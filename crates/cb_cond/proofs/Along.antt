-- Reading symbol by symbol.
use Rattle.std.proofs.Common.{◌≡◌, ℕ, ◌+◌, ◌*◌, ◌<◌, ◌≤◌, false, cond, List, [], ◌∷◌, ◌++◌, length, get_or, take, drop, map, Option, Some, None, option_map, fold, count_by, refl, ap, sym, ◌∙◌, arith}
use Rattle.std.proofs.lemmas.List.Sums.{fold_more, sum_by-take-le}
use Rattle.std.proofs.lemmas.List.{length-map, get_or-map, take-append-drop, drop_all, take_all}
use Rattle.cb_paths.specs.declared.language.Language.{Language}
use Rattle.cb_tokens.specs.declared.token.Token.{Token}
use Rattle.cb_cond.specs.declared.symbol.Symbol.{Symbol}
use Rattle.cb_cond.specs.declared.meaning.Meaning.{Meaning}
use Rattle.cb_cond.specs.declared.frames.Frame.{Frame}
use Rattle.cb_cond.specs.declared.frames.Held.{Held}
use Rattle.cb_cond.specs.declared.frames.Held.TheVariants as held
use Rattle.cb_cond.specs.declared.prefixes.Prefixes.TheVariants.{Linear}
use Rattle.cb_cond.specs.Grammar.{Expression, IsCondition}
use Rattle.cb_cond.specs.Values.{meaning}
use Rattle.cb_cond.specs.Symbols.{symbol, symbols}
use Rattle.cb_cond.specs.Faults.{is_open, is_close, is_question}
use Rattle.cb_cond.specs.inner.Attempts.{HasRoom, IsReadAs}
use Rattle.cb_cond.specs.inner.Frames as frames
use Rattle.cb_cond.proofs.Reading.{Place, Reading, Awaits, Has, Failed, step, run, ended, outcome}
use Rattle.cb_cond.proofs.Complete.{complete-whole}
use Rattle.cb_cond.proofs.Sound.{Sound, Good, good-run, condition, written, prefixes}
use Rattle.cb_cond.proofs.Image.{image, composed, frame_of, step-image, whole-image, Failed-image}
use Rattle.cb_cond.proofs.Room.{Counted, Holds, counted-run, few, insides, asks, rank-below}

-- before the first symbol
abbrev pub start : Reading
start = Awaits [] []

run-fold : (ss : List Symbol) (r : Reading) → run ss r ≡ fold step r ss
unfolding run
run-fold [] r = refl
run-fold (s ∷ ss) r = run-fold ss (step r s)

run-more : (ss : List Symbol) (i : ℕ) (s : Symbol) (r : Reading) → i < length ss → run (take (i + 1) ss) r ≡ step (run (take i ss) r) (get_or ss i s)
run-more ss i s r h =
    run-fold (take (i + 1) ss) r ∙ fold_more step r ss i s h ∙ ap (λ q. step q (get_or ss i s)) (sym (run-fold (take i ss) r))

run-append : (ss ts : List Symbol) (r : Reading) → run (ss ++ ts) r ≡ run ts (run ss r)
unfolding run
run-append [] ts r = refl
run-append (s ∷ ss) ts r = run-append ss ts (step r s)

run-failed : (ss : List Symbol) → run ss Failed ≡ Failed
unfolding run step
run-failed [] = refl
run-failed (s ∷ ss) = run-failed ss

next-image : (language : Language) (tokens : List Token) (i : ℕ) (d : Token) (fs : List Frame) (h : Held) → i < length tokens
    → image (run (take i (symbols language tokens)) start) ≡ Some (record { frames = fs; held = h })
    → image (run (take (i + 1) (symbols language tokens)) start) ≡ frames.step fs h (symbol language (get_or tokens i d))
unfolding symbols
next-image language tokens i d fs h l e =
    let long : i < length (map (symbol language) tokens) = rw length-map l in
    ap image (run-more (symbols language tokens) i (symbol language d) start long)
    ∙ step-image fs h (run (take i (symbols language tokens)) start) (get_or (symbols language tokens) i (symbol language d)) e
    ∙ ap (frames.step fs h) (get_or-map (symbol language) tokens i d (symbol language d) l)

pub step-read : (language : Language) (tokens : List Token) (i : ℕ) (item : Token) (s : Symbol) (fs : List Frame) (h : Held) (o : Option frames.Read)
    → i < length tokens → item ≡ get_or tokens i item → s ≡ symbol language item
    → image (run (take i (symbols language tokens)) start) ≡ Some (record { frames = fs; held = h })
    → o ≡ frames.step fs h s → image (run (take (i + 1) (symbols language tokens)) start) ≡ o
step-read language tokens i item s fs h o l e f g k =
    next-image language tokens i item fs h l g ∙ ap (λ t. frames.step fs h (symbol language t)) (sym e) ∙ ap (frames.step fs h) (sym f) ∙ sym k

pub start-image : (fs : List Frame) → image (run [] start) ≡ Some (record { frames = drop (length fs) fs; held = held.Awaits (Linear false 0) })
unfolding run image composed
start-image fs = ap (λ w. Some (record { frames = w; held = held.Awaits (Linear false 0) })) (sym (drop_all (length fs) fs (omega arith)))

no-condition : (ss : List Symbol) → outcome ss start ≡ None → (t : Expression) → IsCondition ss t → ⊥
no-condition ss e t c = let f = complete-whole ss t c in cc

read-as : (ss : List Symbol) (o : Option Expression) → outcome ss start ≡ o → IsReadAs ss (option_map meaning o)
read-as ss None e = no-condition ss e
read-as ss (Some t) e = (t, condition ss t e, refl)

pub failed-at : (ss : List Symbol) (i : ℕ) → image (run (take i ss) start) ≡ None → IsReadAs ss None
unfolding outcome ended
failed-at ss i e =
    let f : run (take i ss) start ≡ Failed = Failed-image _ e in
    no-condition ss (ap ended (ap (λ w. run w start) (sym (take-append-drop i ss)) ∙ run-append (take i ss) (drop i ss) start ∙ ap (run (drop i ss)) f ∙ run-failed (drop i ss)))

pub read-whole : (ss : List Symbol) (fs : List Frame) (h : Held) → image (run ss start) ≡ Some (record { frames = fs; held = h }) → IsReadAs ss (frames.whole_of fs h)
unfolding outcome
read-whole ss fs h e = rw (whole-image fs h (run ss start) e) (read-as ss (ended (run ss start)) refl)

pub read-end : (language : Language) (tokens : List Token) (i : ℕ) (fs : List Frame) (h : Held) (o : Option Meaning) → length tokens ≤ i
    → image (run (take i (symbols language tokens)) start) ≡ Some (record { frames = fs; held = h }) → o ≡ frames.whole_of fs h → IsReadAs (symbols language tokens) o
unfolding symbols
read-end language tokens i fs h o l e w =
    let long : length (map (symbol language) tokens) ≤ i = rw length-map l in
    let all : take i (map (symbol language) tokens) ≡ map (symbol language) tokens = take_all i _ long in
    rw w (read-whole (map (symbol language) tokens) fs h (rw all at e))

below : (gs : List Place) (ts : List Symbol) (deepest q n : ℕ) → Sound gs → Holds gs ts → count_by is_open ts ≤ count_by is_close ts + deepest
    → count_by is_question ts ≤ q → 11 * deepest + q + 11 ≤ n → length gs < n
below gs ts deepest q n s h o c l = let f = few gs s in let r = rank-below gs in omega arith

room-of : (r : Reading) (ts : List Symbol) (deepest q n : ℕ) (fs : List Frame) (h : Held) → Good r ts → Counted r ts → image r ≡ Some (record { frames = fs; held = h })
    → count_by is_open ts ≤ count_by is_close ts + deepest → count_by is_question ts ≤ q → 11 * deepest + q + 11 ≤ n → length fs < n
unfolding Good Counted image
room-of (Awaits gs ps) ts deepest q n fs h g c e o w l =
    let read : ◌≡◌ {A = frames.Read} (record { frames = map frame_of gs; held = held.Awaits (composed ps) }) (record { frames = fs; held = h }) = cc in
    let same : map frame_of gs ≡ fs = ap (λ (r : frames.Read). r.frames) read in
    let len : length (map frame_of gs) ≡ length gs = length-map gs frame_of in
    let b = below gs ts deepest q n g.0 c o w l in
    rw (← same) (omega arith)
room-of (Has gs a) ts deepest q n fs h g c e o w l =
    let read : ◌≡◌ {A = frames.Read} (record { frames = map frame_of gs; held = held.Has (meaning a) }) (record { frames = fs; held = h }) = cc in
    let same : map frame_of gs ≡ fs = ap (λ (r : frames.Read). r.frames) read in
    let len : length (map frame_of gs) ≡ length gs = length-map gs frame_of in
    let b = below gs ts deepest q n g.0 c o w l in
    rw (← same) (omega arith)
room-of Failed ts deepest q n fs h g c e o w l = cc

good-start : Good start []
unfolding Good Sound written prefixes
good-start = (tt, refl)

counted-start : Counted start []
unfolding Counted insides asks
counted-start = record { parentheses = refl; choices = omega arith }

pub room : (ss : List Symbol) (n i : ℕ) (fs : List Frame) (h : Held) → HasRoom ss n → image (run (take i ss) start) ≡ Some (record { frames = fs; held = h }) → length fs < n
room ss n i fs h k e =
    room-of (run (take i ss) start) (take i ss) k.0 (count_by is_question ss) n fs h (good-run (take i ss) [] start good-start) (counted-run (take i ss) [] start counted-start) e
    (k.1 i) (sum_by-take-le (λ s. cond (is_question s) 1 0) ss i) k.2
