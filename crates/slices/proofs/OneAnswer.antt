-- Each promise of `slices` admits one answer only, and leaves one thing only in what was lent; of any type that is copied, and of
-- any number. Assumes nothing.
use mathlib.Core.Path.{refl}
use Prim.Native.Nat.{ℕ}
use mir.Syntax.{Dict, w64}
use mir.Val.{Fits}
use denote.RattleType.{RattleType}
use denote.Param.Laws.{Laws, IsCopy}
use Rattle.std.specs.declared.clone.Clone.{Ghosts}
use Rattle.lists.proofs.Answer.{OneAnswer, OneAnswerIn, same}
use Rattle.slices.proofs.copy.Reads as copy
use Rattle.slices.proofs.copy.Kinds as copy-k
use Rattle.slices.proofs.array.Reads as array
use Rattle.slices.proofs.array.Kinds as array-k
use Rattle.slices.proofs.put.Reads as put
use Rattle.slices.proofs.put.Kinds as put-k
use Rattle.slices.proofs.clear.Reads as clear
use Rattle.slices.proofs.clear.Kinds as clear-k
use Rattle.slices.proofs.put_planes.Reads as put-planes
use Rattle.slices.proofs.put_planes.Kinds as put-planes-k
use Rattle.slices.proofs.put_count.Reads as put_count
use Rattle.slices.proofs.put_count.Kinds as put-count-k

module _ (T : RattleType) (l : Laws T) (c : IsCopy T) (clone : Ghosts T.Denot) (dict : Dict) where
  pub copy-one : OneAnswerIn 3 (copy-k.ps T l c) (copy-k.r T l c) (copy.Post T l c clone dict) (λ κs s. s.0.now)
  copy-one κs a x y s t p q = (refl, same p q)

  module _ (N : ℕ) (f : Fits w64 N) where
    pub array-one : OneAnswer 3 (array-k.ps T N l f c) (array-k.r T N l f c) (array.Post T N l f c clone dict)
    array-one κs a x y s t = same

    pub put-one : OneAnswerIn 4 (put-k.ps T N l f c) (put-k.r T N l f c) (put.Post T N l f c clone dict) (λ κs s. s.0.now)
    put-one κs a x y s t p q = (refl, same p q)

pub clear-one : OneAnswerIn 1 clear-k.ps clear-k.r clear.Post (λ κs s. s.0.now)
clear-one κs a x y s t p q = (refl, same p q)

pub put-planes-one : OneAnswerIn 4 put-planes-k.ps put-planes-k.r put-planes.Post (λ κs s. s.0.now)
put-planes-one κs a x y s t p q = (refl, same p q)

pub put-count-one : OneAnswerIn 1 put-count-k.ps put-count-k.r put_count.Post (λ κs s. s.0.now)
put-count-one κs a x y s t p q = (refl, same p q)
