-- `decoder::judged` meets its contract. Assumes nothing.
use mathlib.Core.Path.{◌∙◌, ap}
use Rattle.answers.proofs.Results.{handed_on}
use Rattle.rules.specs.Read.{rules_board}
use Rattle.rules.specs.Judge.{judge_rows}
use Rattle.encoder.specs.Decoding.{decoded}
use Rattle.decoder.specs.declared.DecodeRefusal.TheVariants.{Rule}
use Rattle.decoder.specs.Answer.{decoded_outcome}
use Rattle.decoder.proofs.Answers.{refused_left, yes_left, front, rules_left}
use Rattle.decoder.proofs.judged.Goals as goal

pub returns-in_err-judge_rules : goal.returns-in_err-judge_rules
returns-in_err-judge_rules c =
    let b = rules_board c.args.numbering.now.board in
    let told = c.in_err-judge_rules.ensures ∙ rules_left b c.args.values.now _ c.size.ensures c.draw.ensures in
    record {
      result_value = ap decoded_outcome (handed_on _ c.from_residual.ensures.1) ∙ told;
      drawing_after = refused_left (judge_rows b (decoded b c.args.values.now)) _ _ (Rule c.in_err-judge_rules.field-0.0) told;
    }

-- what is answered needs nothing of the copy
pub returns-clause-result_value : goal.returns-clause-result_value
returns-clause-result_value c =
    c.in_ok-judge_rules.ensures ∙ rules_left (rules_board c.args.numbering.now.board) c.args.values.now _ c.size.ensures c.draw.ensures

pub returns-clause-drawing_after : goal.returns-clause-drawing_after
returns-clause-drawing_after c =
    let b = rules_board c.args.numbering.now.board in
    let told = c.in_ok-judge_rules.ensures ∙ rules_left b c.args.values.now _ c.size.ensures c.draw.ensures in
    yes_left (judge_rows b (decoded b c.args.values.now)) _ _ told (c.copy_from_slice.ensures.after ∙ front b c.args.values.now _ c.size.ensures c.draw.ensures)
