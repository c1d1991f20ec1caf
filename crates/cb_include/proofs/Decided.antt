-- Comparisons of all fields decide whether commands are the same.
use Rattle.std.proofs.Common.{◌≡◌, ℕ, Bool, true, false, ◌&&◌, List, refl, ap}
use Rattle.std.specs.Prelude.{bytes_eq}
use Rattle.std.specs.Bool.{Decides}
use Rattle.std.specs.Cmp.Lexicographic.{pointwise, pointwise_decides, bytes_decides}
use Rattle.cb_paths.specs.declared.language.Language.{Language}
use Rattle.cb_include.specs.declared.op.Op.{Op}
use Rattle.cb_include.specs.declared.command.Command.{Command}

-- of two tests each decides a fact
also : {P Q : Type 0} (a b : Bool) → Decides a P → Decides b Q → Decides (a && b) (P × Q)
also true b d e = (λ h. (d.0 refl, e.0 h), λ h. e.1 h.1)
also false b d e = (λ h. absurd (cc), λ h. d.1 h.0)

texts_decide : (some other : List (List ℕ)) → Decides (pointwise bytes_eq some other) (some ≡ other)
texts_decide = pointwise_decides bytes_decides

pub command_decides : (of_language : Language → Language → Bool) (of_op : Op → Op → Bool)
    → ((some other : Language) → Decides (of_language some other) (some ≡ other))
    → ((some other : Op) → Decides (of_op some other) (some ≡ other)) → (some other : Command)
    → Decides (bytes_eq some.main other.main && (of_language some.language other.language
    && (pointwise of_op some.ops other.ops && (bytes_eq some.work other.work
    && (pointwise bytes_eq some.quote other.quote && (pointwise bytes_eq some.angle other.angle
    && (pointwise bytes_eq some.forced other.forced && bytes_eq some.root other.root)))))))
    (some ≡ other)
command_decides of_language of_op languages ops some other =
    let fields = also _ _ (bytes_decides some.main other.main) (also _ _ (languages some.language other.language)
    (also _ _ (pointwise_decides ops some.ops other.ops) (also _ _ (bytes_decides some.work other.work)
    (also _ _ (texts_decide some.quote other.quote) (also _ _ (texts_decide some.angle other.angle)
    (also _ _ (texts_decide some.forced other.forced) (bytes_decides some.root other.root))))))) in (
      λ h. let e = fields.0 h in λ i. record {
        main = e.0 i;
        language = e.1.0 i;
        ops = e.1.1.0 i;
        work = e.1.1.1.0 i;
        quote = e.1.1.1.1.0 i;
        angle = e.1.1.1.1.1.0 i;
        forced = e.1.1.1.1.1.1.0 i;
        root = e.1.1.1.1.1.1.1 i;
      },
      λ e. fields.1 (
        ap (λ (c : Command). c.main) e,
        (
          ap (λ (c : Command). c.language) e,
          (
            ap (λ (c : Command). c.ops) e,
            (
              ap (λ (c : Command). c.work) e,
              (
                ap (λ (c : Command). c.quote) e,
                (ap (λ (c : Command). c.angle) e, (ap (λ (c : Command). c.forced) e, ap (λ (c : Command). c.root) e)),
              ),
            ),
          ),
        ),
      ),
    )
