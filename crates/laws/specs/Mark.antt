-- Laws of the repeat mark: sizes in the place of strides (`Sizes`, `Mirror`), the quick no (`Ordered`, `Apart`, `Rises`), the quick yes
-- (`Still`), the exact test (`Exact`), and the mark itself (`Marks`).
pub mod Sizes
pub mod Mirror
pub mod Ordered
pub mod Apart
pub mod Rises
pub mod Still
pub mod Exact
pub mod Marks
