use Rattle.cases.proofs.CardExamples.{one_stage_examples, residue_examples, two_stage_examples}
use Rattle.cases.proofs.DraftExamples.{draft_examples}
use Rattle.cases.proofs.FileExamples.{file_examples, header_examples}
use Rattle.cases.proofs.OneStep.{drafts_there}
use Rattle.cases.proofs.PatchExamples.{patch_examples}
use Rattle.cases.proofs.RefusalExamples.{refusal_examples}
use Rattle.cases.proofs.RuleExamples.{one_stage_rules, two_stage_rules}
use Rattle.cases.proofs.SelectorExamples.{colour_examples, selector_examples}
use Rattle.cases.proofs.SideExamples.{side_examples, skew_examples}
use Rattle.cases.proofs.StageExamples.{closing_examples, dilation_examples, erosion_examples, opening_examples, order_examples, tone_examples}
use Rattle.cases.proofs.examples_hold.Goals as goal

pub returns : goal.returns
returns c =
    record {
      selectors = selector_examples;
      colours = colour_examples;
      tones = tone_examples;
      orders = order_examples;
      erosions = erosion_examples;
      dilations = dilation_examples;
      openings = opening_examples;
      closings = closing_examples;
      sides = side_examples;
      one_stage_cards = one_stage_examples;
      one_stage_rules = one_stage_rules;
      two_stage_cards = two_stage_examples;
      two_stage_rules = two_stage_rules;
      skew_cards = skew_examples;
      patches = patch_examples;
      refusals = refusal_examples;
      headers = header_examples;
      files = file_examples;
      drafts = draft_examples;
      residues = residue_examples;
      drafts_there = drafts_there;
    }
