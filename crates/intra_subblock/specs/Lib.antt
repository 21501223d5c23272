-- Names for the private steps: lines of means, and a sub-block drawn from a line.
pub mod Line
