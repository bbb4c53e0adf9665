-- What was sent through a pipe is what was got of it, and then what it holds. One pass at most may send, and it has the list of what was sent; the same for getting.
-- The one that sends may promise once all that it will ever have sent, which others then know. Each other may be told a front of what was sent (this project's rule).
use Rattle.std.specs.Prelude.{◌≡◌, ◌≢◌, ℕ, Bool, true, List, [], ◌∷◌, ◌++◌, Option, Some, None, ⊤}
use Rattle.std.specs.List.{flat_map}
use mathlib.Core.Option.{some}
use lib.ListN.{get_elem?}
use Rattle.saber_io.specs.declared.feeds.EndMark.{EndMark}
use Rattle.saber_pipe.specs.declared.items.Item.{Item}
use Rattle.saber_pipe.specs.declared.rule.Log.{Log}

-- the bytes of an item
abbrev pub bytes_in : Item → List ℕ
bytes_in (Item.Piece piece) = piece.items
bytes_in (Item.Last mark) = []

-- the bytes of items, one behind the other
abbrev pub bytes_of : List Item → List ℕ
bytes_of = flat_map bytes_in

-- the first mark among items
abbrev pub mark_of : List Item → Option EndMark
mark_of [] = None
mark_of (Item.Piece piece ∷ items) = mark_of items
mark_of (Item.Last mark ∷ items) = Some mark

-- behind a mark there is nothing
abbrev pub EndsByMark : List Item → Type 0
EndsByMark items = (before after : List Item) → items ≡ before ++ after → mark_of before ≢ None → after ≡ []

-- a list begins so
abbrev pub BeginsWith : List Item → List Item → Type 0
BeginsWith items front = (later : List Item) × (items ≡ front ++ later)

-- what was promised, if something was, begins with these items, and ends by a mark if it has one
abbrev pub Promised : Option (List Item) → List Item → Type 0
Promised None items = ⊤
Promised (Some all) items = EndsByMark all × BeginsWith all items

abbrev pub log : Bool → Bool → List Item → List Item → Option (List Item) → Log
log a b sent got whole = record { sends = a; gets = b; sent = sent; got = got; whole = whole }

-- what a pass knows: a front of what was sent; and more if it may send or get, or was told what was promised
pub record Fits (writer reader : ℕ) (sent got : List Item) (whole : Option (List Item)) (port : ℕ) (v : Log) : Type 0 where
  pub sends : v.sends ≡ true → (port ≡ writer) × (v.sent ≡ sent) × (v.whole ≡ whole)
  pub gets : v.gets ≡ true → (port ≡ reader) × (v.got ≡ got)
  pub told : v.whole ≢ None → v.whole ≡ whole
  pub front : BeginsWith sent v.sent

-- the rule, of what the queue holds and of what all passes know
pub record Relayed (items : List Item) (views : List Log) : Type 0 where
  pub writer : ℕ
  pub reader : ℕ
  pub sent : List Item
  pub got : List Item
  pub whole : Option (List Item)
  pub order : sent ≡ got ++ items
  pub ends : EndsByMark sent
  pub promise : Promised whole sent
  pub fits : (port : ℕ) (v : Log) → get_elem? views port ≡ some v → Fits writer reader sent got whole port v

-- sending these next keeps to what was promised, if something was
abbrev pub KeepsTo : Option (List Item) → List Item → List Item → Type 0
KeepsTo None sent next = ⊤
KeepsTo (Some all) sent next = (later : List Item) × (all ≡ sent ++ (next ++ later))

-- the queue holds the last of what was sent
abbrev pub HoldsLastOf : List Item → List Item → Type 0
HoldsLastOf sent items = (before : List Item) × (sent ≡ before ++ items)
