-- The cases of a copy's feed are as the rules say, by computing.
-- Assumes nothing.
use mathlib.Core.Path.{refl}
use Rattle.area.specs.Part.{part}
use Rattle.block.specs.Number.{to_bytes, from_bytes}
use Rattle.block.specs.Check.{plain, weighted, check_a, check_b}
use Rattle.block.specs.Kind.{kind_of}
use Rattle.block.specs.Layout.{middle, header, body, check, layout}
use Rattle.block.specs.Legal.{legal}
use Rattle.block.specs.Slot.{all_zero, same, number_at, fields_at, block_at, valid, judged}
use Rattle.promises.specs.Updates.{put}
use Rattle.promises.specs.Blocks.{written, slot_at, slots_from}
use Rattle.promises.specs.DirtyPages.{look_up, apply, apply_all, without, keep_from_of}
use Rattle.promises.specs.Newest.{newest, gather, all_unused, gathered}
use Rattle.promises.specs.Walk.{walk_block, in_order, framed, walk_from, finding}
use Rattle.promises.specs.Contents.{dirty_from}
use Rattle.promises.specs.Sums.{first_groups}
use Rattle.promises.specs.Sound.{dirty_numbers, sound_as}
use Rattle.promises.specs.Feed.{updates_from, lacking, turned, feeding}
use Rattle.promises.specs.CopyOpen.{copy_finding}
use Rattle.cases.specs.Case.{Right}
use Rattle.cases.specs.StoreCases.{blocks_from, log_of, home_bytes}
use Rattle.cases.specs.FeedCases.{frames_for, fed_bytes, feed_cases, order_cases}

pub feeds-right : Right feed_cases
unfolding feed_cases part to_bytes from_bytes plain weighted check_a check_b kind_of middle header body check layout legal all_zero same number_at fields_at block_at valid judged put written slot_at slots_from look_up apply apply_all without keep_from_of newest gather all_unused gathered walk_block in_order framed walk_from finding blocks_from log_of home_bytes sound_as first_groups dirty_numbers dirty_from updates_from lacking turned feeding copy_finding frames_for fed_bytes
feeds-right = (refl, (refl, (refl, (refl, (refl, (refl, (refl, (refl, (refl, (refl, (refl, (refl, (refl, (refl, (refl, (refl, (refl, (refl, (refl, (refl, (refl, (refl, (refl, tt)))))))))))))))))))))))

pub order-right : Right order_cases
unfolding order_cases part to_bytes from_bytes plain weighted check_a check_b kind_of middle header body check layout legal all_zero same number_at fields_at block_at valid judged put written slot_at slots_from look_up apply apply_all without keep_from_of newest gather all_unused gathered walk_block in_order framed walk_from finding blocks_from log_of home_bytes sound_as first_groups dirty_numbers dirty_from updates_from lacking turned feeding copy_finding frames_for fed_bytes
order-right = (refl, tt)
