-- Texts of bounded length, written one behind the other on a page that has room for them.
use Rattle.std.specs.Prelude.{ℕ, ◌+◌, ◌≤◌, List, length}
use Rattle.printing.specs.declared.Page.{Page}
use Rattle.printing.specs.Page.{Adds}

-- the page has room for so many bytes
pub record HasRoom (bound : ℕ) (page : Page) : Type 0 where
  pub enough : page.at + bound ≤ length page.room.now

-- the text stands behind what stood on the page, and takes so many bytes at most
pub record AddsWithin (bound : ℕ) (text : List ℕ) (before after : Page) : Type 0 where
  pub adds : Adds text before after
  pub few : after.at ≤ before.at + bound
