use Rattle.std.proofs.Common.{◌≡◌, List, ℕ, [], ◌∷◌, ◌++◌, ap, ◌∙◌}
use Rattle.laws.specs.Setup.{parts}
use Rattle.notation.specs.Decimal.{digits}
use Rattle.notation.proofs.Laying.{fen_laid}
use Rattle.notation.proofs.fen.lay.line.Goals as goal

written : (x : List ℕ) {y s t : List ℕ} → y ≡ x ++ s → s ≡ t → y ≡ x ++ t
written x e f = e ∙ ap (λ z. x ++ z) f

pub returns : goal.returns
returns c =
    fen_laid (parts c.args.setup.now) _ _ _ _ _ _ _ _ _ _ _ c.new-line.ensures
    c.placement.ensures.items
    (written _ c.push.ensures.items (ap (λ x. x ∷ []) c.side_letter.ensures)) c.push-2.ensures.items
    c.rights.ensures.items c.push-3.ensures.items
    c.en_passant.ensures.items c.push-4.ensures.items
    (written _ c.append.ensures.items (c.text.ensures.value ∙ c.of.ensures ∙ ap digits c.from.ensures)) c.push-5.ensures.items
    (written _ c.append-2.ensures.items (c.text-2.ensures.value ∙ c.of-2.ensures ∙ ap digits c.from-2.ensures))
