use mathlib.Core.Path.{refl}
use Rattle.formatter.proofs.Arms.{by-dropped, by-switch, by-text-laid-out, by-copied, unchanging}
use Rattle.formatter.proofs.text_taken_as.Goals as goal

pub format_text-requires : goal.format_text-requires
format_text-requires c =
    record { ready = c.requires.ready; kind_value = c.requires.kind_value; i_value = unchanging _ _ _ c.in-LaidOut.is c.requires.i_value }

pub returns-in-Dropped : goal.returns-in-Dropped
returns-in-Dropped c =
    by-dropped _ _ _ _ _ c.requires.ready _ _ refl c.in-Dropped.is

pub returns-in-Switches : goal.returns-in-Switches
returns-in-Switches c =
    by-switch _ _ _ _ _ c.requires.ready _ _ _ refl c.in-Switches.is

pub returns-in-LaidOut : goal.returns-in-LaidOut
returns-in-LaidOut c =
    by-text-laid-out _ _ _ _ _ c.requires.ready _ _ _ c.in-LaidOut.is c.format_text.ensures

pub returns-in-Copied : goal.returns-in-Copied
returns-in-Copied c =
    by-copied _ _ _ _ _ c.requires.ready _ _ _ c.in-Copied.is c.format_no_change.ensures
