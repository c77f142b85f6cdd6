-- All that a run computes with, to be unfolded in one word. Assumes nothing.
use Rattle.flood.specs.Instants.{changed}
use Rattle.history.specs.Calls.{world_opened, copy_taken, next_taken, world_closed, world_damaged}
use Rattle.history.specs.Checks.{checked, checked_first}
use Rattle.history.specs.Floods.{through, without_first, flood_at, verdicts_of, heard_by}
use Rattle.history.specs.Histories.{called, history}
use Rattle.history.specs.Plays.{open_events, copies_in, copies_taken, instant_gone, tried, playing}
use Rattle.search.specs.Lowest.{lowest, looked_for}
use Rattle.vetting.specs.Cases.{fault_in}

unfoldable pub runs : Unit {0}
unfolding lowest looked_for changed fault_in checked checked_first world_opened copy_taken next_taken world_closed world_damaged open_events copies_in copies_taken instant_gone tried playing called history through without_first flood_at verdicts_of heard_by
runs = tt
