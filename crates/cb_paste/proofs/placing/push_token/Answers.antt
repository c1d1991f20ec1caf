use Rattle.std.proofs.Common.{◌∷◌, length, sym, subst, ◌∙◌, ap}
use Rattle.std.proofs.Math.Path.{fun_ext}
use Rattle.cb_paste.specs.Shades.{seen, waiting, AreIn}
use Rattle.cb_paste.proofs.Arenas.{extends_length}
use Rattle.cb_paste.proofs.Standing.{in_more}
use Rattle.cb_paste.proofs.Stacks.{waiting_push, waiting_kept, in_push}
use Rattle.cb_paste.proofs.placing.push_token.Goals as goal

pub returns-clause-put : goal.returns-clause-put
returns-clause-put c =
    ap (λ l. waiting c.either.new.self l) c.in_ok-push.ensures.items
    ∙ (waiting_push c.either.new.self c.args.stack.now.items _
    ∙ (ap (λ l. seen c.either.new.self (record c.args.token { hides = c.in_ok-hides.hides }) ∷ l) (waiting_kept c.in_ok-hides.ensures.kept c.args.stack.now.items c.requires.stack)
    ∙ ap (λ f. record { kind = c.args.token.kind; spaced = c.args.token.spaced; text = c.args.token.text; hides = f } ∷ waiting c.args.arena.now c.args.stack.now.items) (fun_ext c.in_ok-hides.ensures.places)))

pub returns-clause-within : goal.returns-clause-within
returns-clause-within c =
    subst (λ l. AreIn (length c.either.new.self) l) (sym c.in_ok-push.ensures.items)
    (in_push (length c.either.new.self) c.args.stack.now.items _ (in_more _ _ (extends_length c.in_ok-hides.ensures.kept) c.args.stack.now.items c.requires.stack) c.in_ok-hides.ensures.within)
