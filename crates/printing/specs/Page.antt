-- Texts written one behind the other on a page.
use Rattle.std.specs.Prelude.{ℕ, ◌+◌, ◌≤◌, ◌≡◌, List, length}
use Rattle.std.proofs.lemmas.List.Edits.{sets}
use Rattle.printing.specs.declared.Page.{Page}

-- the page has room for the text
pub record Fits (text : List ℕ) (page : Page) : Type 0 where
  pub enough : page.at + length text ≤ length page.room.now

-- the text stands behind what stood on the page, the next one begins at its end, and no other byte has changed; the room is the one
-- that was lent
pub record Adds (text : List ℕ) (before after : Page) : Type 0 where
  pub same : after.room.ghost_name ≡ before.room.ghost_name
  pub ends : after.at ≡ before.at + length text
  pub holds : after.room.now ≡ sets before.room.now before.at text
