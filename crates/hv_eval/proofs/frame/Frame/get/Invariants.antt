use Rattle.std.proofs.Common.{◌≡◌, ◌++◌, drop, slice_get}
use Rattle.hv_eval.specs.Frames.{parts_values, frame_values}
use Rattle.hv_eval.proofs.frame.Frame.get.Given as goal

abbrev pub invariant-loop-part : goal.invariant-loop-part
invariant-loop-part l =
    slice_get (parts_values (drop l.part-index l.self.before.now) ++ l.self.last.now) l.place ≡ slice_get (frame_values l.self) l.initial.place
