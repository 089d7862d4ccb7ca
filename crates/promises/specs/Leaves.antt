-- What a call leaves that lends no frames: a sound state that says this, with the dirty pages as they were.
-- Assumes nothing.
use Rattle.std.specs.Prelude.{ℕ, ◌≡◌, true, List}
use Rattle.promises.specs.declared.State.{State}
use Rattle.promises.specs.DirtyPages.{look_up}
use Rattle.promises.specs.Contents.{Contents, contents_of, dirty_of}
use Rattle.promises.specs.Sound.{sound}

pub record Leaves (before after : State) (staging' : List ℕ) (contents : Contents) : Type 0 where
  pub stays_sound : sound after ≡ true
  pub contents_are : contents_of after staging' ≡ contents
  pub dirty_are : (frames : List ℕ) (page : ℕ) → look_up page (dirty_of after frames) ≡ look_up page (dirty_of before frames)
