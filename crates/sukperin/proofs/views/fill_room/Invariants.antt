use Rattle.std.proofs.Common.{◌≡◌, length, take, drop}
use Rattle.std.specs.List.{AllZip}
use Rattle.sukperin.specs.Views.{IsToldAs}
use Rattle.sukperin.proofs.views.fill_room.Given as goal

-- the IKE SAs so far are told, and behind them the room is as it was
abbrev pub invariant-loop-place : goal.invariant-loop-place
invariant-loop-place l = record {
  told : AllZip IsToldAs (take l.place l.held) (take l.place l.room);
  behind : drop l.place l.room ≡ drop l.place l.initial.room;
  long : length l.room ≡ length l.initial.room;
}
