-- The worked cases are as the rules say: the starred ones as one statement, cases 10 to 12, and those of a damaged end.
-- Assumes nothing.
use mathlib.Core.Path.{refl}
use Rattle.area.specs.Part.{part, splice}
use Rattle.block.specs.Number.{to_bytes, from_bytes}
use Rattle.block.specs.Check.{plain, weighted, check_a, check_b}
use Rattle.block.specs.Kind.{kind_of}
use Rattle.block.specs.Layout.{middle, header, body, check, layout}
use Rattle.block.specs.Legal.{legal}
use Rattle.block.specs.Slot.{all_zero, same, number_at, fields_at, block_at, valid, judged}
use Rattle.promises.specs.Updates.{put}
use Rattle.promises.specs.Blocks.{written, slot_at, slots_from}
use Rattle.promises.specs.DirtyPages.{look_up, apply, apply_all, without, keep_from_of}
use Rattle.promises.specs.Newest.{newest, gather, all_unused, gathered}
use Rattle.promises.specs.Walk.{walk_block, in_order, framed, walk_from, finding}
use Rattle.promises.specs.Sums.{first_groups}
use Rattle.promises.specs.Sound.{dirty_numbers, sound_as}
use Rattle.promises.specs.Begin.{begin_refusal}
use Rattle.promises.specs.Read.{read_refusal}
use Rattle.cases.specs.Case.{Right}
use Rattle.cases.specs.BlockCases.{block_cases}
use Rattle.cases.specs.StoreCases.{blocks_from, log_of, home_bytes, told, starred_cases, further_cases}
use Rattle.cases.specs.EndCases.{updates_from, end_cases}

pub starred-right : Right starred_cases
unfolding starred_cases block_cases part to_bytes from_bytes plain weighted check_a check_b kind_of middle header body check layout legal all_zero same number_at fields_at block_at valid judged put written slot_at slots_from look_up apply apply_all without keep_from_of newest gather all_unused gathered walk_block in_order framed walk_from finding blocks_from log_of home_bytes told
starred-right = (refl, (refl, (refl, (refl, (refl, (refl, (refl, (refl, (refl, (refl, (refl, (refl, (refl, (refl, tt))))))))))))))

pub further-right : Right further_cases
unfolding further_cases part to_bytes from_bytes plain weighted check_a check_b kind_of middle header body check layout legal all_zero same number_at fields_at block_at valid judged put written slot_at slots_from look_up apply apply_all without keep_from_of newest gather all_unused gathered walk_block in_order framed walk_from finding blocks_from log_of home_bytes told begin_refusal read_refusal sound_as first_groups dirty_numbers
further-right = (refl, (refl, (refl, tt)))

pub ends-right : Right end_cases
unfolding end_cases updates_from part splice to_bytes from_bytes plain weighted check_a check_b kind_of middle header body check layout legal all_zero same number_at fields_at block_at valid judged put written slot_at slots_from look_up apply apply_all without keep_from_of newest gather all_unused gathered walk_block in_order framed walk_from finding blocks_from log_of home_bytes told
ends-right = (refl, (refl, (refl, (refl, (refl, (refl, (refl, (refl, (refl, tt)))))))))
