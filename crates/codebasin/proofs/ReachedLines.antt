-- The lines of the nodes that are reached, node by node.
use Rattle.std.proofs.Common.{◌≡◌, ℕ, ◌+◌, ◌-◌, ◌<◌, Bool, List, [], ◌++◌, length, drop, get_or, Some, slice_get, sym, ap, ◌∙◌, append_assoc, arith}
use Rattle.std.specs.Prelude.{if◌then◌else◌}
use Rattle.std.specs.Option.{option_map}
use Rattle.std.proofs.lemmas.List.{at_drop_more}
use Rattle.std.proofs.lemmas.Option.{slice_get-get_or}
use Rattle.cb_tree.specs.declared.node.NodeKind.TheVariants.{Text}
use Rattle.cb_tree.specs.Nodes.{Node}
use Rattle.codebasin.specs.Specialise.{lines_from}
use Rattle.codebasin.specs.Texts.{numbers_text}
use Rattle.codebasin.proofs.NumberTexts.{numbers_text_append}

-- the lines from a node on: its own where it is reached, and those of the nodes behind
lines_at : (reached : ℕ → Bool) (nodes : List Node) (i : ℕ) (counted : List ℕ) → i < length nodes
    → option_map (λ (n : Node). n.counted) (slice_get nodes (i + 1 - 1)) ≡ Some counted
    → lines_from reached (i + 1) (drop i nodes) ≡ (if reached (i + 1) then counted else []) ++ lines_from reached (i + 1 + 1) (drop (i + 1) nodes)
lines_at reached nodes i counted h is =
    let none : Node = record { kind = Text; tokens = []; counted = [] } in
    let n : Node = get_or nodes i none in
    let place : i + 1 - 1 ≡ i = omega arith in
    let at : slice_get nodes (i + 1 - 1) ≡ Some n = ap (slice_get nodes) place ∙ slice_get-get_or nodes i none h in
    let e : Some n.counted ≡ Some counted = sym (ap (option_map (λ (m : Node). m.counted)) at) ∙ is in
    let same : n.counted ≡ counted = cc in
    ap (lines_from reached (i + 1)) (at_drop_more (λ ns. ns) nodes i none h)
    ∙ ap (λ c. (if reached (i + 1) then c else []) ++ lines_from reached (i + 1 + 1) (drop (i + 1) nodes)) same

-- a text with the lines of one node more
pub text_more : (reached : ℕ → Bool) (nodes : List Node) (i : ℕ) (counted text new : List ℕ) → i < length nodes
    → option_map (λ (n : Node). n.counted) (slice_get nodes (i + 1 - 1)) ≡ Some counted
    → new ≡ text ++ numbers_text (if reached (i + 1) then counted else [])
    → new ++ numbers_text (lines_from reached (i + 1 + 1) (drop (i + 1) nodes)) ≡ text ++ numbers_text (lines_from reached (i + 1) (drop i nodes))
text_more reached nodes i counted text new h is added =
    let own : List ℕ = if reached (i + 1) then counted else [] in
    let more : List ℕ = lines_from reached (i + 1 + 1) (drop (i + 1) nodes) in
    ap (λ t. t ++ numbers_text more) added
    ∙ (append_assoc text (numbers_text own) (numbers_text more)
    ∙ ap (λ t. text ++ t) (sym (numbers_text_append own more) ∙ ap numbers_text (sym (lines_at reached nodes i counted h is))))
