-- Laws of texts that go by cases, and of texts made apart before they are put.
use Prim.Native.Nat.{ℕ, ◌+◌, ◌≤◌, ◌<◌}
use mathlib.Core.Path.{◌≡◌, refl, ap, ◌∙◌}
use mathlib.Core.List.{List, [], ◌∷◌, ◌++◌}
use lib.ListN.{length, take, drop, length-append, length-drop}
use native.Mathlib.Omega.{arith}
use Rattle.lists.specs.Lists.{over}
use Rattle.lists.proofs.Laws.{front_over, over_nothing}
use Rattle.std.specs.Prelude.{Ok, Err}
use Rattle.text.specs.Text.{ascii, Placed}
use Rattle.text.proofs.Laws.{placed_nothing}
use Rattle.program_outcome.specs.Outcome.{word_most, opening, named, printing, saying, Left}
use Rattle.program_outcome.specs.Outcome.{Tells}

-- what is there for one of the cases is there for what is known to be that case
pub placed_as : {A : Type 0} (text : A → List ℕ) {list after : List ℕ} {at past : ℕ} {this case : A} → this ≡ case
    → Placed list at (text case) after past
    → Placed list at (text this) after past
placed_as text is p = rw is p

-- a text at the front of an area of any size is read from there, and is no longer than what the area holds then
pub placed_front : {list text after : List ℕ} {past : ℕ} → Placed list 0 text after past → take past after ≡ text
placed_front {list} {text} {after} {past} p =
    let size : length text ≡ past = omega (arith, p.next) in
    rw p.is (front_over list text past size)

pub placed_within : {list text after : List ℕ} {past : ℕ} → Placed list 0 text after past → past ≤ length after
unfolding over
placed_within {list} {text} {after} {past} p =
    rw p.is (omega (arith, p.next, length-append text (drop (0 + length text) list)))

-- an area in which a text leaves room has the size that it had
pub as_long : {list text after : List ℕ} {past : ℕ} → Placed list 0 text after past → past < length after → length list ≡ length after
unfolding over
as_long {list} {text} p room =
    let rest = drop (0 + length text) list in
    let long = ap length p.is in
    omega (arith, long, room, p.next, length-append text rest, length-drop (0 + length text) list)

-- what is left where a program only prints, or only says
pub left_printing : {text printed said printed' : List ℕ} {n : ℕ} → Placed printed 0 text printed' n
    → Left (printing text) printed said printed' said (record { prints = n; writes = 0; says = 0 })
left_printing {said = said} p = record { prints = p; writes = refl; says = placed_nothing said 0 }

pub left_saying : {text printed said said' : List ℕ} {n : ℕ} → Placed said 0 text said' n
    → Left (saying text) printed said printed said' (record { prints = 0; writes = 0; says = n })
left_saying {printed = printed} p = record { prints = placed_nothing printed 0; writes = refl; says = p }

-- what is said of an argument has a colon at least
pub said_long : (word what : List ℕ) → 0 < length (named word what)
unfolding named opening ascii
said_long word what =
    omega (arith, length-append (take word_most word ++ ascii ": ") what, length-append (take word_most word) (ascii ": "))

module _ {T : Type 0} {Good : T → Type 0} where
  -- a step stops that says something, as of an argument, and else gives something good
  pub stops : {text said said' : List ℕ} {size : ℕ} → 0 < length text → Placed said 0 text said' size → Tells text said said' Good (Err size)
  stops some p = record { says = p; some = omega (arith, p.next, some); good = tt }

  pub stops_of : {said said' : List ℕ} {size : ℕ} (word what : List ℕ) → Placed said 0 (named word what) said' size
      → Tells (named word what) said said' Good (Err size)
  stops_of word what p = stops (said_long word what) p

  pub goes_on : {said : List ℕ} {value : T} → Good value → Tells [] said said Good (Ok value)
  goes_on {said} good = record { says = placed_nothing said 0; some = tt; good = good }

-- where it goes on, nothing is said and nothing has changed
pub record Quiet {T : Type 0} (text said said' : List ℕ) (Good : T → Type 0) (value : T) : Type 0 where
  pub none : text ≡ []
  pub same : said' ≡ said
  pub good : Good value

no_bytes : (text : List ℕ) → length text ≡ 0 → text ≡ []
no_bytes [] e = refl
no_bytes (byte ∷ bytes) e = absurd (omega arith)

pub quiet : {T : Type 0} {Good : T → Type 0} {text said said' : List ℕ} {value : T} → Tells text said said' Good (Ok value)
    → Quiet text said said' Good value
quiet {text = text} {said} t =
    let none = no_bytes text (omega (arith, t.says.next)) in
    record { none = none; same = (rw none at t.says).is ∙ over_nothing said 0; good = t.good }
