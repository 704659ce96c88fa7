use Rattle.std.proofs.Common.{sym, ap, ◌∙◌}
use Rattle.std.proofs.lemmas.Bool.{cond-true}
use Rattle.rules.specs.Parts.{Parts}
use Rattle.rules.specs.Lawful.{lawful}
use Rattle.rules.proofs.StaysLawful.{stays_lawful}
use Rattle.laws.specs.Position.{position_parts}
use Rattle.moves.specs.Action.{plain}
use Rattle.moves.proofs.PlayLaws.{after_codes}
use Rattle.moves.proofs.TrialLaws.{pawn_inside}
use Rattle.moves.proofs.legal.after.Goals as goal

pub setup_after-setup-requires : goal.setup_after-setup-requires
setup_after-setup-requires g c = pawn_inside (position_parts c.args.position.now) (plain c.args.m) c.args.position.now.ok

pub invariant_of-next : goal.invariant_of-next
invariant_of-next g c = record {
  ok = ap lawful c.setup_after-setup.ensures
      ∙ stays_lawful (position_parts c.args.position.now) (plain c.args.m) c.args.position.now.ok (sym c.if-not-is_legal.ensures.answer);
}

pub returns-clause-list : goal.returns-clause-list
returns-clause-list g c =
    c.show.ensures ∙ ap (λ (p : Parts). p.codes) c.setup_after-setup.ensures ∙ after_codes (position_parts c.args.position.now) (plain c.args.m)
    ∙ sym (cond-true _ _ _ (sym c.if-not-is_legal.ensures.answer))
