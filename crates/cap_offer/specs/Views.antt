-- What contracts see of choices that are offered.
use Rattle.std.specs.Prelude.{ℕ, List, map, Option, Some, None, option_map}
use Rattle.std.specs.Borrow.{Bor}
use Rattle.std.specs.Global.{Vec}
use Rattle.cap_lin.specs.declared.row.Row.{Row}
use Rattle.cap_prog.specs.declared.assertion.Item.{Item}
use Rattle.cap_prog.specs.declared.region.RegionType.{RegionType}
use Rattle.cap_prog.specs.declared.region.Case.{Case}
use Rattle.cap_prog.specs.declared.region.Action.{Action}
use Rattle.cap_prog.specs.Program.{PlainItem, Items, none, item, PlainCase, PlainAction, PlainRegionType}
use Rattle.cap_prog.specs.Views.{item_view, act_view, case_view, action_view, region_view}
use Rattle.cap_goal_spec.specs.Choices.{PlainChoice}
use Rattle.cap_goal.specs.Views.{choice_view}
use Rattle.cap_goal.specs.declared.choice.Choice.{Choice}
use Rattle.cap_offer_spec.specs.Deciding.{Outcome}
use Rattle.cap_offer_spec.specs.Scanning.{Scan, finds, ends, goes_on}
use Rattle.cap_offer.specs.declared.offers.Offers.{Offers}
use Rattle.cap_offer.specs.declared.scanning.Scan as code
use Rattle.cap_offer.specs.declared.scanning.Sought as sought
use Rattle.cap_offer.specs.Seeking.{PlainSought, of_act, of_item}

abbrev pub choices_view : List Choice → List PlainChoice
choices_view cs = map choice_view cs

abbrev pub offers_view : Offers → Outcome (List PlainChoice)
offers_view o = record { value = choices_view o.choices.items; notes = o.notes }

abbrev pub scan_view : code.Scan → Scan
scan_view (code.TheVariants.Finds c) = finds (choice_view c)
scan_view code.TheVariants.Ends = ends
scan_view code.TheVariants.GoesOn = goes_on

abbrev pub sought_view : sought.Sought → PlainSought
sought_view (sought.TheVariants.Act act) = of_act (act_view act.now)
sought_view (sought.TheVariants.Item env address) = of_item env address.now

-- what is lent
abbrev pub region_in : Option (Bor RegionType) → Option PlainRegionType
region_in k = option_map (λ r. region_view r.now) k

abbrev pub case_in : Option (Bor Case) → Option PlainCase
case_in c = option_map (λ x. case_view x.now) c

abbrev pub action_in : Option (Bor Action) → Option PlainAction
action_in a = option_map (λ x. action_view x.now) a

-- numbers of pieces
abbrev pub numbers_seen : Option (Vec ℕ) → Option (List ℕ)
numbers_seen js = option_map (λ v. v.items) js

-- the item that comes first
abbrev pub first_of_items : Items → Option PlainItem
first_of_items none = None
first_of_items (item i more) = Some i

abbrev pub item_in : Option (Bor Item) → Option PlainItem
item_in i = option_map (λ x. item_view x.now) i

-- lists of rows that are owed
abbrev pub lists_in : List (Vec Row) → List (List Row)
lists_in ls = map (λ rows. rows.items) ls
